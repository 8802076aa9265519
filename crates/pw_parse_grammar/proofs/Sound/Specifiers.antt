-- Specifiers that are read are trees (6.5.1 to 6.5.3, 6.5.6).
use Rattle.std.proofs.Common.{◌≡◌, ℕ, zero, suc, Bool, true, false, if◌then◌else◌, List, [], ◌∷◌, Option, Some, None, ◌||◌, arith, refl, sym, ap, ◌∙◌, subst}
use Rattle.pw_tree.specs.Numbering.{NumberedTag, Numbered, NumberedSpecifiers, NumberedMembers, NumberedMemberDeclarators, NumberedEnumerators}
use Rattle.pw_tree.specs.Scopes.{is_typedef_name, has_type, after_expr, after_specifiers, after_members, after_member_declarators, after_enumerators, Env}
use Rattle.pw_tree.specs.Spelling.{spell_tag, spell_expr, spell_specifiers, spell_members}
use Rattle.pw_tree.specs.Symbols as symbol
use Rattle.pw_tree.specs.Symbols.{Symbol, Reserved, Sign, unary_symbol, binary_mark, assign_mark, access_mark, step_mark}
use Rattle.pw_tree.specs.Trees.{Word, Specifiers, NoSpecifier, Storage, Qualified, Basic, TypedefName, RecordTag, Record, EnumTag, Enum, Members, NoMember, Member, MemberDeclarators, Enumerators}
use Rattle.pw_tree.specs.WellFormed.{HasSpecifier, HasMember, NoStorage, WellFormed, WellFormedSpecifiers, WellFormedMembers}
use Rattle.pw_token.specs.declared.symbol.Keyword.TheVariants as k
use Rattle.pw_token.specs.declared.symbol.Mark.TheVariants as m
use Rattle.pw_parse_grammar.specs.Input.{Input, first_of_rest, ahead, is_none_left, at_end, step_to, step, same_mark, same_keyword, is_mark, is_keyword, sees, sees_keyword, or_false, Outcome, Parser, and_then, ◌>>=◌, ◌>>◌, pure, ◌<$>◌, fault, asks, peek, here, skip, take_number, word, past, past_keyword, eat, eat_keyword, expect, expect_keyword, identifier_by, ordinary_by, ordinary, declare_all, leave, since, turns, go_on, repeat, list_of, turn_of, while_some, turn_with, one_or_more, unless_comma, Binding}
use Rattle.pw_parse_grammar.specs.Input as input
use Rattle.pw_scope.specs.Visible.{visible}
use Rattle.pw_parse_grammar.specs.Parts.{Parts}
use Rattle.pw_tree.specs.declared.expr.BasicType.{BasicType}
use Rattle.pw_tree.specs.declared.expr.Qualifier.{Qualifier}
use Rattle.pw_tree.specs.declared.expr.RecordKind.{RecordKind}
use Rattle.pw_tree.specs.declared.expr.StorageClass.{StorageClass}
use Rattle.pw_token.specs.declared.symbol.Keyword.{Keyword}
use Rattle.pw_scope.specs.Visible.{visible}
use Rattle.pw_tree.specs.Symbols.{storage_word, qualifier_word, basic_word, record_word}
use Rattle.pw_parse_grammar.specs.declared.word.SpecifierWord.{SpecifierWord}
use Rattle.pw_parse_grammar.specs.declared.word.SpecifierWord.TheVariants as words
use Rattle.pw_parse_grammar.specs.Input as input
use Rattle.pw_parse_grammar.specs.Specifiers.{tag_by, tag, tagged_record, tagged_enum, typed_by, specifiers_behind, closes_members, member_declarators, member, members, record_specifier, enumerators, enum_specifier, specifier_at, specifier_by, specifier, specifiers_from, specifiers_of}
use Rattle.pw_parse_grammar.specs.Tests.{specifier_word}
use Rattle.pw_parse_grammar.specs.Expressions.{some_specifiers}
use Rattle.pw_parse_grammar.proofs.Trees.Base.{names_of, names_are}
use Rattle.pw_parse_grammar.proofs.Written.Knows.{MayHold}
use Rattle.pw_parse_grammar.proofs.Trees.Lengths.{length-enumerators}
use Rattle.pw_parse_grammar.proofs.Sound.Base.{Post, bind, weaken, choose_parser, Reads, nothing, both, token, sign, expected, eaten, renamed}
use Rattle.pw_parse_grammar.proofs.Sound.Lists.{IsTurn, repeat-sound}
use Rattle.pw_parse_grammar.proofs.Sound.Parts.{IsSpecifiers, SoundSpecifiers, Sound}
use Rattle.pw_parse_grammar.proofs.Sound.Primaries.{some_specifiers-sound}
use Rattle.pw_parse_grammar.proofs.Sound.Members.{IsMemberDeclarators, member_declarators-sound, IsEnumeration, enumerators-sound}

-- ---- keywords

abbrev word_in : Keyword → Option SpecifierWord → Keyword
word_in w None = w
word_in w (Some (words.Storage c)) = storage_word c
word_in w (Some (words.Qualified c)) = qualifier_word c
word_in w (Some (words.Basic c)) = basic_word c
word_in w (Some (words.Record c)) = record_word c
word_in w (Some words.Enum) = k.Enum

word_stays : (w : Keyword) → word_in w (specifier_word w) ≡ w
word_stays k.Typedef = refl
word_stays k.Extern = refl
word_stays k.Static = refl
word_stays k.Auto = refl
word_stays k.Register = refl
word_stays k.Const = refl
word_stays k.Volatile = refl
word_stays k.Void = refl
word_stays k.Char = refl
word_stays k.Short = refl
word_stays k.Int = refl
word_stays k.Long = refl
word_stays k.Float = refl
word_stays k.Double = refl
word_stays k.Signed = refl
word_stays k.Unsigned = refl
word_stays k.Struct = refl
word_stays k.Union = refl
word_stays k.Enum = refl
word_stays _ = refl

pub word_found : (w : Keyword) (o : SpecifierWord) → specifier_word w ≡ Some o → w ≡ word_in w (Some o)
word_found w o h = sym (word_stays w) ∙ ap (word_in w) h

-- ---- 6.5.2.1

-- members from i to j
pub record IsMembers (env : Env) (i : Input) (ms : Members) (j : Input) : Type 0 where
  pub reads : Reads i j (after_members env ms) (spell_members ms)
  pub holds : WellFormedMembers env ms
  pub numbered : NumberedMembers i.next ms

no_members : (env : Env) (i : Input) → i.names ≡ names_of env → IsMembers env i NoMember i
unfolding spell_expr after_expr WellFormed Numbered
no_members env i names = record { reads = nothing i env names; holds = tt; numbered = tt }

-- members, one or more, and the `}` behind them
pub record IsMemberList (env : Env) (i : Input) (ms : Members) (j : Input) : Type 0 where
  pub inner : Input
  pub list : IsMembers env i ms inner
  pub closing : Reads inner j (after_members env ms) (λ z. Sign m.CloseBrace ∷ z)
  pub has : HasMember ms

-- a declaration of members before others
pub record IsMember (env : Env) (i : Input) (f : Members → Members) (j : Input) : Type 0 where
  pub inner : Env
  pub names : j.names ≡ names_of inner
  pub before : (ms : Members) (k : Input) → IsMembers inner j ms k → IsMembers env i (f ms) k
  pub has : (ms : Members) → HasMember (f ms)

module _ (parts : Parts) (sound : Sound parts) where
  member-whole : (env : Env) (i j x k end : Input) (ss : Specifiers) (ds : MemberDeclarators) (ms : Members) → IsSpecifiers false env i ss j → HasSpecifier ss → IsMemberDeclarators parts sound (has_type ss) (after_specifiers env ss) j ds x
      → Reads x k (after_member_declarators (after_specifiers env ss) ds) (λ z. Sign m.Semicolon ∷ z) → IsMembers (after_member_declarators (after_specifiers env ss) ds) k ms end → IsMembers env i (Member ss ds ms) end
  unfolding spell_expr after_expr WellFormed Numbered
  member-whole env i j x k end ss ds ms q has r closing s = record {
    reads = both q.reads (both r.reads (both closing s.reads));
    holds = (has, q.may, q.holds, r.has, r.holds, s.holds);
    numbered = (
      q.numbered,
      subst (λ v. NumberedMemberDeclarators true v ds) q.reads.next r.numbered,
      subst (λ v. NumberedMembers v ms) (omega (arith, q.reads.next, r.reads.next, closing.next)) s.numbered,
    );
  }

  member-sound : (env : Env) (i : Input) → i.names ≡ names_of env → Post (IsMember env i) (member parts i)
  unfolding member
  member-sound env i names =
      bind _ (some_specifiers parts false i) (λ ss. member_declarators parts (has_type ss) >>= λ ds. expect m.Semicolon >> pure (Member ss ds)) (some_specifiers-sound parts sound false env i names) (λ ss j q.
      bind _ (member_declarators parts (has_type ss) j) (λ ds. expect m.Semicolon >> pure (Member ss ds)) (member_declarators-sound parts sound (has_type ss) (after_specifiers env ss) j q.0.reads.names) (λ ds x r.
      expected _ x (after_member_declarators (after_specifiers env ss) ds) m.Semicolon (pure (Member ss ds)) r.reads.names (λ k closing.
      record {
        inner = after_member_declarators (after_specifiers env ss) ds;
        names = closing.names;
        before = λ ms end s. member-whole env i j x k end ss ds ms q.0 q.1 r closing s;
        has = λ ms. tt;
      })))

  last_member : (env : Env) (i j k : Input) (f : Members → Members) → (q : IsMember env i f j) → Reads j k q.inner (λ z. Sign m.CloseBrace ∷ z) → IsMemberList env i (f NoMember) k
  last_member env i j k f q c =
      let all = q.before NoMember j (no_members q.inner j q.names) in
      record { inner = j; list = all; closing = renamed c (c.names ∙ sym q.names ∙ all.reads.names); has = q.has NoMember }

  more_members : (env : Env) (i j k : Input) (f : Members → Members) (ms : Members) → (q : IsMember env i f j) → IsMemberList q.inner j ms k → IsMemberList env i (f ms) k
  more_members env i j k f ms q r =
      let all = q.before ms r.inner r.list in
      record { inner = r.inner; list = all; closing = renamed r.closing (r.closing.names ∙ sym r.list.reads.names ∙ all.reads.names); has = q.has ms }

  pub members-sound : (env : Env) (i : Input) → i.names ≡ names_of env → Post (IsMemberList env i) (members parts i)
  unfolding members past
  members-sound env i names = repeat-sound IsMemberList (member parts >>= λ first. turn_with first <$> closes_members) turn (turns i) env i names
    where
      by : (env : Env) (i : Input) (f : Members → Members) (j : Input) → IsMember env i f j → (b : Bool) → sees m.CloseBrace j ≡ b
          → IsTurn IsMemberList env i (turn_with f (if b then Some NoMember else None)) (if b then step j else j)
      by env i f j q true e = last_member env i j (step j) f q (sign j q.inner m.CloseBrace e q.names)
      by env i f j q false e = (q.inner, q.names, λ ms k r. more_members env i j k f ms q r)

      turn : (env : Env) (i : Input) → i.names ≡ names_of env → Post (IsTurn IsMemberList env i) ((member parts >>= λ first. turn_with first <$> closes_members) i)
      turn env i names = bind _ (member parts i) (λ first. turn_with first <$> closes_members) (member-sound env i names) (λ f j q. by env i f j q (sees m.CloseBrace j) refl)

  -- ---- tags

  -- a tag where there is one
  pub record IsTag (env : Env) (i : Input) (t : Option Word) (j : Input) : Type 0 where
    pub reads : Reads i j env (spell_tag t)
    pub numbered : NumberedTag i.next t

  pub tag-sound : (env : Env) (i : Input) → i.names ≡ names_of env → Post (IsTag env i) (tag i)
  unfolding tag
  tag-sound env i names = by (ahead i) refl
    where
      by : (s : Option Symbol) → ahead i ≡ s → Post (IsTag env i) (tag_by s i)
      by (Some (symbol.Identifier x)) h = record { reads = token i env (symbol.Identifier x) h names; numbered = refl }
      by None h = record { reads = nothing i env names; numbered = tt }
      by (Some _) h = record { reads = nothing i env names; numbered = tt }

  -- ---- lists of specifiers

  -- specifiers from i to j, behind others, among which a type specifier stands where the flag says so
  pub record IsBehind (storage typed : Bool) (env : Env) (i : Input) (ss : Specifiers) (j : Input) : Type 0 where
    pub reads : Reads i j (after_specifiers env ss) (spell_specifiers ss)
    pub holds : WellFormedSpecifiers env typed ss
    pub may : MayHold storage ss
    pub numbered : NumberedSpecifiers i.next ss

  -- a specifier before others
  pub record IsBefore (storage typed : Bool) (env : Env) (i : Input) (f : Specifiers → Specifiers) (j : Input) : Type 0 where
    pub inner : Env
    pub names : j.names ≡ names_of inner
    pub before : (ss : Specifiers) (k : Input) → IsBehind storage (typed_by typed f) inner j ss k → IsBehind storage typed env i (f ss) k

  pub may_as : (storage : Bool) (a b : Specifiers) → (NoStorage a → NoStorage b) → MayHold storage a → MayHold storage b
  may_as true a b f h = tt
  may_as false a b f h = f h

  pub or_true : (b : Bool) → (b || true) ≡ true
  or_true true = refl
  or_true false = refl

  pub or_same : (b : Bool) → (b || false) ≡ b
  or_same true = refl
  or_same false = refl

  storage-before : (c : StorageClass) (typed : Bool) (env : Env) (i : Input) → ahead i ≡ Some (Reserved (storage_word c)) → i.names ≡ names_of env → IsBefore true typed env i (Storage i.next c) (step i)
  unfolding spell_expr after_expr WellFormed Numbered
  storage-before c typed env i h names =
      let t = token i env (Reserved (storage_word c)) h names in
      record {
        inner = env;
        names = t.names;
        before = λ ss k r. record {
          reads = both t r.reads;
          holds = subst (λ v. WellFormedSpecifiers env v ss) (or_same typed) r.holds;
          may = tt;
          numbered = (refl, subst (λ v. NumberedSpecifiers v ss) t.next r.numbered);
        };
      }

  qualified-before : (c : Qualifier) (storage typed : Bool) (env : Env) (i : Input) → ahead i ≡ Some (Reserved (qualifier_word c)) → i.names ≡ names_of env → IsBefore storage typed env i (Qualified i.next c) (step i)
  unfolding spell_expr after_expr WellFormed Numbered
  qualified-before c storage typed env i h names =
      let t = token i env (Reserved (qualifier_word c)) h names in
      record {
        inner = env;
        names = t.names;
        before = λ ss k r. record {
          reads = both t r.reads;
          holds = subst (λ v. WellFormedSpecifiers env v ss) (or_same typed) r.holds;
          may = may_as storage ss (Qualified i.next c ss) (λ n. n) r.may;
          numbered = (refl, subst (λ v. NumberedSpecifiers v ss) t.next r.numbered);
        };
      }

  basic-before : (c : BasicType) (storage typed : Bool) (env : Env) (i : Input) → ahead i ≡ Some (Reserved (basic_word c)) → i.names ≡ names_of env → IsBefore storage typed env i (Basic i.next c) (step i)
  unfolding spell_expr after_expr WellFormed Numbered
  basic-before c storage typed env i h names =
      let t = token i env (Reserved (basic_word c)) h names in
      record {
        inner = env;
        names = t.names;
        before = λ ss k r. record {
          reads = both t r.reads;
          holds = subst (λ v. WellFormedSpecifiers env v ss) (or_true typed) r.holds;
          may = may_as storage ss (Basic i.next c ss) (λ n. n) r.may;
          numbered = (refl, subst (λ v. NumberedSpecifiers v ss) t.next r.numbered);
        };
      }

  typedef-before : (w : Word) (storage : Bool) (env : Env) (i : Input) → ahead i ≡ Some (symbol.Identifier w.text) → w.token ≡ i.next → is_typedef_name env w.text ≡ true → i.names ≡ names_of env → IsBefore storage false env i (TypedefName w) (step i)
  unfolding spell_expr after_expr WellFormed Numbered
  typedef-before w storage env i h n is names =
      let t = token i env (symbol.Identifier w.text) h names in
      record {
        inner = env;
        names = t.names;
        before = λ ss k r. record {
          reads = both t r.reads;
          holds = (refl, is, r.holds);
          may = may_as storage ss (TypedefName w ss) (λ n. n) r.may;
          numbered = (n, subst (λ v. NumberedSpecifiers v ss) t.next r.numbered);
        };
      }

  record_tag-before : (kind : RecordKind) (w : Word) (storage typed : Bool) (env : Env) (i x j : Input) → Reads i x env (λ z. Reserved (record_word kind) ∷ z) → IsTag env x (Some w) j → IsBefore storage typed env i (RecordTag i.next kind w) j
  unfolding spell_expr after_expr WellFormed Numbered
  record_tag-before kind w storage typed env i x j t q =
      record {
        inner = env;
        names = q.reads.names;
        before = λ ss k r. record {
          reads = both t (both q.reads r.reads);
          holds = subst (λ v. WellFormedSpecifiers env v ss) (or_true typed) r.holds;
          may = may_as storage ss (RecordTag i.next kind w ss) (λ n. n) r.may;
          numbered = (refl, q.numbered ∙ t.next, subst (λ v. NumberedSpecifiers v ss) (omega (arith, t.next, q.reads.next)) r.numbered);
        };
      }

  enum_tag-before : (w : Word) (storage typed : Bool) (env : Env) (i x j : Input) → Reads i x env (λ z. Reserved k.Enum ∷ z) → IsTag env x (Some w) j → IsBefore storage typed env i (EnumTag i.next w) j
  unfolding spell_expr after_expr WellFormed Numbered
  enum_tag-before w storage typed env i x j t q =
      record {
        inner = env;
        names = q.reads.names;
        before = λ ss end r. record {
          reads = both t (both q.reads r.reads);
          holds = subst (λ v. WellFormedSpecifiers env v ss) (or_true typed) r.holds;
          may = may_as storage ss (EnumTag i.next w ss) (λ n. n) r.may;
          numbered = (refl, q.numbered ∙ t.next, subst (λ v. NumberedSpecifiers v ss) (omega (arith, t.next, q.reads.next)) r.numbered);
        };
      }

  record-before : (kind : RecordKind) (w : Option Word) (ms : Members) (storage typed : Bool) (env : Env) (i x y u j : Input) → Reads i x env (λ z. Reserved (record_word kind) ∷ z) → IsTag env x w y → Reads y u env (λ z. Sign m.OpenBrace ∷ z)
      → IsMemberList env u ms j → IsBefore storage typed env i (Record i.next kind w ms) j
  unfolding spell_expr after_expr WellFormed Numbered
  record-before kind w ms storage typed env i x y u j t q opening l =
      record {
        inner = after_members env ms;
        names = l.closing.names;
        before = λ ss k r. record {
          reads = both t (both q.reads (both opening (both l.list.reads (both l.closing r.reads))));
          holds = (l.has, l.list.holds, subst (λ v. WellFormedSpecifiers (after_members env ms) v ss) (or_true typed) r.holds);
          may = may_as storage ss (Record i.next kind w ms ss) (λ n. n) r.may;
          numbered = (
            refl,
            subst (λ v. NumberedTag v w) t.next q.numbered,
            subst (λ v. NumberedMembers v ms) (omega (arith, t.next, q.reads.next, opening.next)) l.list.numbered,
            subst (λ v. NumberedSpecifiers v ss) (omega (arith, t.next, q.reads.next, opening.next, l.list.reads.next, l.closing.next)) r.numbered,
          );
        };
      }

  enum-before : (w : Option Word) (es : Enumerators) (storage typed : Bool) (env : Env) (i x y u j : Input) → Reads i x env (λ z. Reserved k.Enum ∷ z) → IsTag env x w y → Reads y u env (λ z. Sign m.OpenBrace ∷ z)
      → IsEnumeration parts sound env u es j → IsBefore storage typed env i (Enum i.next w es) j
  unfolding spell_expr after_expr WellFormed Numbered
  enum-before w es storage typed env i x y u j t q opening l =
      record {
        inner = after_enumerators env es;
        names = l.reads.names;
        before = λ ss end r. record {
          reads = both t (both q.reads (both opening (both l.reads r.reads)));
          holds = (l.has, l.holds, subst (λ v. WellFormedSpecifiers (after_enumerators env es) v ss) (or_true typed) r.holds);
          may = may_as storage ss (Enum i.next w es ss) (λ n. n) r.may;
          numbered = (
            refl,
            subst (λ v. NumberedTag v w) t.next q.numbered,
            subst (λ v. NumberedEnumerators true v es) (omega (arith, t.next, q.reads.next, opening.next)) l.numbered,
            subst (λ v. NumberedSpecifiers v ss) (omega (arith, t.next, q.reads.next, opening.next, l.reads.next, length-enumerators true es (Sign m.CloseBrace ∷ []))) r.numbered,
          );
        };
      }

  record-sound : (kind : RecordKind) (storage typed : Bool) (env : Env) (i : Input) → ahead i ≡ Some (Reserved (record_word kind)) → i.names ≡ names_of env → Post (IsBefore storage typed env i) (record_specifier parts kind i)
  unfolding record_specifier
  record-sound kind storage typed env i h names =
      let t = token i env (Reserved (record_word kind)) h names in
      bind _ (tag (step i)) (λ w. eat m.OpenBrace >>= λ b. if b then (λ ms. Record i.next kind w ms) <$> members parts else tagged_record i.next kind w) (tag-sound env (step i) t.names) (λ w y q.
      eaten _ y env m.OpenBrace ((λ ms. Record i.next kind w ms) <$> members parts) (tagged_record i.next kind w) q.reads.names
      (λ u opening. bind _ (members parts u) (λ ms. pure (Record i.next kind w ms)) (members-sound env u opening.names) (λ ms j l. record-before kind w ms storage typed env i (step i) y u j t q opening l))
      (λ _. tagged w y t q))
    where
      tagged : (w : Option Word) (y : Input) → Reads i (step i) env (λ z. Reserved (record_word kind) ∷ z) → IsTag env (step i) w y → Post (IsBefore storage typed env i) (tagged_record i.next kind w y)
      tagged None y t q = tt
      tagged (Some w) y t q = record_tag-before kind w storage typed env i (step i) y t q

  enum-sound : (storage typed : Bool) (env : Env) (i : Input) → ahead i ≡ Some (Reserved k.Enum) → i.names ≡ names_of env → Post (IsBefore storage typed env i) (enum_specifier parts i)
  unfolding enum_specifier
  enum-sound storage typed env i h names =
      let t = token i env (Reserved k.Enum) h names in
      bind _ (tag (step i)) (λ w. eat m.OpenBrace >>= λ b. if b then (λ es. Enum i.next w es) <$> enumerators parts else tagged_enum i.next w) (tag-sound env (step i) t.names) (λ w y q.
      eaten _ y env m.OpenBrace ((λ es. Enum i.next w es) <$> enumerators parts) (tagged_enum i.next w) q.reads.names
      (λ u opening. bind _ (enumerators parts u) (λ es. pure (Enum i.next w es)) (enumerators-sound parts sound env u opening.names) (λ es j l. enum-before w es storage typed env i (step i) y u j t q opening l))
      (λ _. tagged w y t q))
    where
      tagged : (w : Option Word) (y : Input) → Reads i (step i) env (λ z. Reserved k.Enum ∷ z) → IsTag env (step i) w y → Post (IsBefore storage typed env i) (tagged_enum i.next w y)
      tagged None y t q = tt
      tagged (Some w) y t q = enum_tag-before w storage typed env i (step i) y t q

  -- a specifier, where one stands next
  abbrev pub IsNext : Bool → Bool → Env → Input → Option (Specifiers → Specifiers) → Input → Type 0
  IsNext storage typed env i None j = (j.names ≡ names_of env) × Reads i j env (λ z. z)
  IsNext storage typed env i (Some f) j = IsBefore storage typed env i f j

  at_word : (storage typed : Bool) (env : Env) (i : Input) → i.names ≡ names_of env → (o : Option SpecifierWord) (w : Keyword) → specifier_word w ≡ o → ahead i ≡ Some (Reserved w) → Post (IsNext storage typed env i) (specifier_at parts storage o i)
  unfolding specifier_at
  at_word storage typed env i names None w h a = (names, nothing i env names)
  at_word true typed env i names (Some (words.Storage c)) w h a = storage-before c typed env i (a ∙ ap (λ v. Some (Reserved v)) (word_found w (words.Storage c) h)) names
  at_word false typed env i names (Some (words.Storage c)) w h a = (names, nothing i env names)
  at_word storage typed env i names (Some (words.Qualified c)) w h a = qualified-before c storage typed env i (a ∙ ap (λ v. Some (Reserved v)) (word_found w (words.Qualified c) h)) names
  at_word storage typed env i names (Some (words.Basic c)) w h a = basic-before c storage typed env i (a ∙ ap (λ v. Some (Reserved v)) (word_found w (words.Basic c) h)) names
  at_word storage typed env i names (Some (words.Record c)) w h a =
      bind _ (record_specifier parts c i) (λ f. pure (Some f)) (record-sound c storage typed env i (a ∙ ap (λ v. Some (Reserved v)) (word_found w (words.Record c) h)) names) (λ f j q. q)
  at_word storage typed env i names (Some words.Enum) w h a =
      bind _ (enum_specifier parts i) (λ f. pure (Some f)) (enum-sound storage typed env i (a ∙ ap (λ v. Some (Reserved v)) (word_found w words.Enum h)) names) (λ f j q. q)

  at_name : (storage typed : Bool) (env : Env) (i : Input) (x : List ℕ) → i.names ≡ names_of env → ahead i ≡ Some (symbol.Identifier x) → Post (IsNext storage typed env i) (specifier_by parts storage typed (Some (symbol.Identifier x)) i)
  unfolding input.is_typedef_name
  at_name storage true env i x names a = (names, nothing i env names)
  at_name storage false env i x names a = choose_parser _ (or_false (visible i.names x)) ((λ w. Some (TypedefName w)) <$> word x) (pure None) i
      (λ h. typedef-before (record { token = i.next; text = x }) storage env i a refl (sym (ap (λ v. or_false (visible v x)) names ∙ names_are env x) ∙ h) names)
      (λ _. (names, nothing i env names))

  specifier-by : (storage typed : Bool) (env : Env) (i : Input) → i.names ≡ names_of env → (s : Option Symbol) → ahead i ≡ s → Post (IsNext storage typed env i) (specifier_by parts storage typed s i)
  specifier-by storage typed env i names (Some (Reserved w)) a = at_word storage typed env i names (specifier_word w) w refl a
  specifier-by storage typed env i names (Some (symbol.Identifier x)) a = at_name storage typed env i x names a
  specifier-by storage typed env i names None a = (names, nothing i env names)
  specifier-by storage typed env i names (Some _) a = (names, nothing i env names)

  none_behind : (storage typed : Bool) (env : Env) (i j : Input) → Reads i j env (λ z. z) → IsBehind storage typed env i NoSpecifier j
  unfolding spell_expr after_expr WellFormed Numbered
  none_behind true typed env i j r = record { reads = r; holds = tt; may = tt; numbered = tt }
  none_behind false typed env i j r = record { reads = r; holds = tt; may = tt; numbered = tt }

  from-sound : (storage : Bool) (n : ℕ) (typed : Bool) (env : Env) (i : Input) → i.names ≡ names_of env → Post (IsBehind storage typed env i) (specifiers_from parts storage n typed i)
  unfolding specifiers_from specifier
  from-sound storage zero typed env i names = tt
  from-sound storage (suc n) typed env i names = bind _ (specifier parts storage typed i) (specifiers_behind (specifiers_from parts storage n) typed) (specifier-by storage typed env i names (ahead i) refl) (by (from-sound storage n))
    where
      by : ((typed : Bool) (env : Env) (i : Input) → i.names ≡ names_of env → Post (IsBehind storage typed env i) (specifiers_from parts storage n typed i)) → (o : Option (Specifiers → Specifiers)) (j : Input) → IsNext storage typed env i o j
          → Post (IsBehind storage typed env i) (specifiers_behind (specifiers_from parts storage n) typed o j)
      by rest None j q = none_behind storage typed env i j q.1
      by rest (Some f) j q = bind (IsBehind storage typed env i) (specifiers_from parts storage n (typed_by typed f) j) (λ ss. pure (f ss)) (rest (typed_by typed f) q.inner j q.names) q.before

  pub specifiers_of-sound : (storage : Bool) → SoundSpecifiers storage (specifiers_of parts storage)
  unfolding specifiers_of
  specifiers_of-sound storage env i names = weaken _ (specifiers_from parts storage (turns i) false i) (from-sound storage (turns i) false env i names) (λ ss j q.
      record { reads = q.reads; holds = q.holds; may = q.may; numbered = q.numbered })
