-- Faults in specifiers (6.5.1 to 6.5.3, 6.5.6).
use Rattle.std.proofs.Common.{◌≡◌, ℕ, zero, suc, ◌<◌, Bool, true, false, if◌then◌else◌, List, ◌∷◌, length, Option, Some, None, arith, refl, sym, ap, ◌∙◌, subst}
use Rattle.pw_scope.specs.Visible.{visible}
use Rattle.pw_tree.specs.Scopes.{Env, has_type, after_specifiers, after_members, after_member_declarators, after_enumerators}
use Rattle.pw_tree.specs.Spelling.{identifier, spell_expr, spell_specifiers, spell_members, spell_member_declarators}
use Rattle.pw_tree.specs.Symbols as symbol
use Rattle.pw_tree.specs.Symbols.{Symbol, Reserved, Sign, storage_word, qualifier_word, basic_word, record_word}
use Rattle.pw_tree.specs.Trees.{Word, Specifiers, NoSpecifier, Storage, Qualified, Basic, TypedefName, RecordTag, Record, EnumTag, Enum, Members, NoMember, Member, MemberDeclarators, NoMemberDeclarator, Padding}
use Rattle.pw_tree.specs.WellFormed.{HasMember, NoStorage, WellFormed, WellFormedSpecifiers, WellFormedMembers}
use Rattle.pw_tree.specs.declared.expr.RecordKind.{RecordKind}
use Rattle.pw_token.specs.declared.symbol.Keyword.{Keyword}
use Rattle.pw_token.specs.declared.symbol.Keyword.TheVariants as k
use Rattle.pw_token.specs.declared.symbol.Mark.TheVariants as m
use Rattle.pw_parse_grammar.specs.declared.word.SpecifierWord.{SpecifierWord}
use Rattle.pw_parse_grammar.specs.declared.word.SpecifierWord.TheVariants as words
use Rattle.pw_parse_grammar.specs.Input.{Input, ahead, step, sees, past, or_false, Parser, ◌>>=◌, ◌>>◌, pure, ◌<$>◌, word, eat, expect, turns}
use Rattle.pw_parse_grammar.specs.Parts.{Parts}
use Rattle.pw_parse_grammar.specs.Expressions.{some_specifiers}
use Rattle.pw_parse_grammar.specs.Specifiers.{tag_by, tag, tagged_record, tagged_enum, typed_by, specifiers_behind, closes_members, member_declarators, member, members, record_specifier, enumerators, enum_specifier, specifier_at, specifier_by, specifier, specifiers_from, specifiers_of}
use Rattle.pw_parse_grammar.specs.Tests.{specifier_word}
use Rattle.pw_parse_grammar.specs.Input as input
use Rattle.pw_parse_grammar.proofs.Trees.Base.{names_of, names_are, no_turns}
use Rattle.pw_parse_grammar.proofs.Written.Knows.{MayHold}
use Rattle.pw_parse_grammar.proofs.Sound.Base.{Reads, both, token}
use Rattle.pw_parse_grammar.proofs.Sound.Parts.{Sound}
use Rattle.pw_parse_grammar.proofs.Sound.Primaries.{some_specifiers-sound}
use Rattle.pw_parse_grammar.proofs.Sound.Members.{member_declarators-sound, enumerators-sound}
use Rattle.pw_parse_grammar.proofs.Sound.Specifiers.{word_found, IsTag, tag-sound, members-sound, may_as, or_true, or_same}
use Rattle.pw_parse_grammar.proofs.Viable.Base.{Does, Fails, bind-fails, bind-does, choose-fails, expected-fails, eaten-fails, Form, Begins, Viable, missing, embed, as_part, counted}
use Rattle.pw_parse_grammar.proofs.Viable.Lists.{GoesOn, AfterEnd, more_behind, items-fail}
use Rattle.pw_parse_grammar.proofs.Viable.Parts.{zero_expr, fresh, specifier_lists, ViableSpecifiers, ViableParts}
use Rattle.pw_parse_grammar.proofs.Viable.Primaries.{some_specifiers-fails}
use Rattle.pw_parse_grammar.proofs.Viable.Members.{member_declarators-fails, enumerators-fails}

-- ---- 6.5.2.1

-- declarations of members, one or more
abbrev pub member_lists : Form Members
member_lists = record { holds = λ env ms. WellFormedMembers env ms × HasMember ms; put = spell_members }

-- `: 0`
abbrev some_member : MemberDeclarators
some_member = Padding 0 zero_expr NoMemberDeclarator

tag-fails : (V : Input → Type 0) (i : Input) → Fails V (tag i)
unfolding tag
tag-fails V i = by (ahead i)
  where
    by : (s : Option Symbol) → Fails V (tag_by s i)
    by (Some (symbol.Identifier x)) = tt
    by None = tt
    by (Some _) = tt

may_hold : (storage : Bool) (ss : Specifiers) → NoStorage ss → MayHold storage ss
may_hold true ss h = tt
may_hold false ss h = h

-- a specifier before others: at j the list goes on that began at i
record IsBefore (storage typed : Bool) (env : Env) (i : Input) (f : Specifiers → Specifiers) (j : Input) : Type 0 where
  inner : Env
  names : j.names ≡ names_of inner
  shorter : length j.rest < length i.rest
  rest : (e : Input) → Viable (specifier_lists storage (typed_by typed f)) inner j e → Viable (specifier_lists storage typed) env i e

-- the same of a specifier where one stands next
abbrev IsNext : Bool → Bool → Env → Input → Option (Specifiers → Specifiers) → Input → Type 0
IsNext storage typed env i None j = Unit {0}
IsNext storage typed env i (Some f) j = IsBefore storage typed env i f j

before : (storage typed : Bool) (f : Specifiers → Specifiers) {env inner : Env} {i j : Input} {put : List Symbol → List Symbol} → Reads i j inner put → length j.rest < length i.rest
    → ((ss : Specifiers) → (specifier_lists storage (typed_by typed f)).holds inner ss → Begins (specifier_lists storage typed) env (λ z. put (spell_specifiers ss z))) → IsBefore storage typed env i f j
before storage typed f {inner = inner} r shorter h = record { inner = inner; names = r.names; shorter = shorter; rest = λ e v. embed r v h }

abbrev Steps : Bool → Bool → Env → Input → Parser (Specifiers → Specifiers) → Type 0
Steps storage typed env i p = Does (IsBefore storage typed env i) (Viable (specifier_lists storage typed) env i) (p i)

module _ (parts : Parts) (sound : Sound parts) (d : ℕ) (viable : ViableParts d parts) where
  member-fails : (env : Env) (i : Input) → i.names ≡ names_of env → length i.rest < d → Does (λ f j. GoesOn (Viable member_lists) env i j) (Viable member_lists env i) (member parts i)
  unfolding member spell_expr WellFormed
  member-fails env i names below =
      bind-fails _ _ (some_specifiers parts false i) _ (some_specifiers-sound parts sound false env i names) (some_specifiers-fails parts sound d viable false env i names below)
      (λ e v. as_part v (λ ss h. record {
        thing = Member ss some_member NoMember;
        holds = ((h.2, h.1, h.0, tt, (omega arith, tt, tt), tt), tt);
        spells = λ z. (spell_member_declarators true some_member (Sign m.Semicolon ∷ z), refl);
      }))
      (λ ss j q. bind-fails _ _ (member_declarators parts (has_type ss) j) _ (member_declarators-sound parts sound (has_type ss) (after_specifiers env ss) j q.0.reads.names)
      (member_declarators-fails parts sound d viable (has_type ss) (after_specifiers env ss) j q.0.reads.names (omega (arith, below, counted q.0.reads)))
      (λ e v. embed q.0.reads v (λ ds h. record { thing = Member ss ds NoMember; holds = ((q.1, q.0.may, q.0.holds, h.1, h.0, tt), tt); spells = λ z. (Sign m.Semicolon ∷ z, refl) }))
      (λ ds x r. expected-fails _ _ x (after_member_declarators (after_specifiers env ss) ds) m.Semicolon (pure (Member ss ds)) r.reads.names
      (missing (both q.0.reads r.reads) (record { thing = Member ss ds NoMember; holds = ((q.1, q.0.may, q.0.holds, r.has, r.holds, tt), tt); spells = λ z. (Sign m.Semicolon ∷ z, refl) }))
      (λ k closing. more_behind (both q.0.reads (both r.reads closing)) (omega (arith, counted q.0.reads, counted r.reads, counted closing)) (λ ms s.
      record { thing = Member ss ds ms; holds = ((q.1, q.0.may, q.0.holds, r.has, r.holds, s.0), tt); spells = λ z. (z, refl) }))))

  members-fails : (env : Env) (i : Input) → i.names ≡ names_of env → length i.rest < d → Fails (Viable member_lists env i) (members parts i)
  unfolding members past
  members-fails env i names below = items-fail (Viable member_lists) (λ env i f j. GoesOn (Viable member_lists) env i j) d (member parts) closes_members member-fails (λ env i f j q. by env i j q (sees m.CloseBrace j)) env i names below
    where
      by : (env : Env) (i j : Input) → GoesOn (Viable member_lists) env i j → (b : Bool) → AfterEnd (Viable member_lists) env i (if b then Some NoMember else None) (if b then step j else j)
      by env i j q true = tt
      by env i j q false = q

  -- ---- 6.5.2

  record-fails : (kind : RecordKind) (storage typed : Bool) (env : Env) (i : Input) → ahead i ≡ Some (Reserved (record_word kind)) → i.names ≡ names_of env → length i.rest < suc d → Steps storage typed env i (record_specifier parts kind)
  unfolding record_specifier spell_expr WellFormed
  record-fails kind storage typed env i h names below =
      let t = token i env (Reserved (record_word kind)) h names in
      bind-fails _ _ (tag (step i)) _ (tag-sound parts sound env (step i) t.names) (tag-fails (Viable (specifier_lists storage typed) env i) (step i)) (λ e v. v) (λ w y q.
      eaten-fails _ _ y env m.OpenBrace ((λ ms. Record i.next kind w ms) <$> members parts) (tagged_record i.next kind w) q.reads.names
      (λ u opening. let all = both t (both q.reads opening) in
      bind-fails _ _ (members parts u) _ (members-sound parts sound env u opening.names) (members-fails env u opening.names (omega (arith, below, counted t, counted q.reads, counted opening)))
      (λ e v. embed all v (λ ms l. record {
        thing = Record i.next kind w ms NoSpecifier;
        holds = ((l.1, l.0, tt), may_hold storage (Record i.next kind w ms NoSpecifier) tt, tt);
        spells = λ z. (Sign m.CloseBrace ∷ z, refl);
      }))
      (λ ms j l. before storage typed (Record i.next kind w ms) (both t (both q.reads (both opening (both l.list.reads l.closing)))) (omega (arith, counted t, counted q.reads, counted opening, counted l.list.reads, counted l.closing)) (λ ss r.
      record {
        thing = Record i.next kind w ms ss;
        holds = ((l.has, l.list.holds, subst (λ v. WellFormedSpecifiers (after_members env ms) v ss) (or_true parts sound typed) r.0), may_as parts sound storage ss (Record i.next kind w ms ss) (λ n. n) r.1, tt);
        spells = λ z. (z, refl);
      })))
      (λ _. tagged w y t q))
    where
      tagged : (w : Option Word) (y : Input) → Reads i (step i) env (λ z. Reserved (record_word kind) ∷ z) → IsTag parts sound env (step i) w y → Steps storage typed env i (λ _. tagged_record i.next kind w y)
      tagged None y t q = missing (both t q.reads) (record { thing = RecordTag i.next kind (fresh env) NoSpecifier; holds = (tt, may_hold storage (RecordTag i.next kind (fresh env) NoSpecifier) tt, tt); spells = λ z. (identifier (fresh env) ∷ z, refl) })
      tagged (Some w) y t q = before storage typed (RecordTag i.next kind w) (both t q.reads) (omega (arith, counted t, counted q.reads)) (λ ss r.
          record { thing = RecordTag i.next kind w ss; holds = (subst (λ v. WellFormedSpecifiers env v ss) (or_true parts sound typed) r.0, may_as parts sound storage ss (RecordTag i.next kind w ss) (λ n. n) r.1, tt); spells = λ z. (z, refl) })

  enum-fails : (storage typed : Bool) (env : Env) (i : Input) → ahead i ≡ Some (Reserved k.Enum) → i.names ≡ names_of env → length i.rest < suc d → Steps storage typed env i (enum_specifier parts)
  unfolding enum_specifier spell_expr WellFormed
  enum-fails storage typed env i h names below =
      let t = token i env (Reserved k.Enum) h names in
      bind-fails _ _ (tag (step i)) _ (tag-sound parts sound env (step i) t.names) (tag-fails (Viable (specifier_lists storage typed) env i) (step i)) (λ e v. v) (λ w y q.
      eaten-fails _ _ y env m.OpenBrace ((λ es. Enum i.next w es) <$> enumerators parts) (tagged_enum i.next w) q.reads.names
      (λ u opening. let all = both t (both q.reads opening) in
      bind-fails _ _ (enumerators parts u) _ (enumerators-sound parts sound env u opening.names) (enumerators-fails parts sound d viable env u opening.names (omega (arith, below, counted t, counted q.reads, counted opening)))
      (λ e v. embed all v (λ es l. record {
        thing = Enum i.next w es NoSpecifier;
        holds = ((l.1, l.0, tt), may_hold storage (Enum i.next w es NoSpecifier) tt, tt);
        spells = λ z. (z, refl);
      }))
      (λ es j l. before storage typed (Enum i.next w es) (both t (both q.reads (both opening l.reads))) (omega (arith, counted t, counted q.reads, counted opening, counted l.reads)) (λ ss r.
      record {
        thing = Enum i.next w es ss;
        holds = ((l.has, l.holds, subst (λ v. WellFormedSpecifiers (after_enumerators env es) v ss) (or_true parts sound typed) r.0), may_as parts sound storage ss (Enum i.next w es ss) (λ n. n) r.1, tt);
        spells = λ z. (z, refl);
      })))
      (λ _. tagged w y t q))
    where
      tagged : (w : Option Word) (y : Input) → Reads i (step i) env (λ z. Reserved k.Enum ∷ z) → IsTag parts sound env (step i) w y → Steps storage typed env i (λ _. tagged_enum i.next w y)
      tagged None y t q = missing (both t q.reads) (record { thing = EnumTag i.next (fresh env) NoSpecifier; holds = (tt, may_hold storage (EnumTag i.next (fresh env) NoSpecifier) tt, tt); spells = λ z. (identifier (fresh env) ∷ z, refl) })
      tagged (Some w) y t q = before storage typed (EnumTag i.next w) (both t q.reads) (omega (arith, counted t, counted q.reads)) (λ ss r.
          record { thing = EnumTag i.next w ss; holds = (subst (λ v. WellFormedSpecifiers env v ss) (or_true parts sound typed) r.0, may_as parts sound storage ss (EnumTag i.next w ss) (λ n. n) r.1, tt); spells = λ z. (z, refl) })

  -- ---- lists of specifiers

  at_word : (storage typed : Bool) (env : Env) (i : Input) → i.names ≡ names_of env → length i.rest < suc d → (o : Option SpecifierWord) (w : Keyword) → specifier_word w ≡ o → ahead i ≡ Some (Reserved w)
      → Does (IsNext storage typed env i) (Viable (specifier_lists storage typed) env i) (specifier_at parts storage o i)
  unfolding specifier_at spell_expr WellFormed
  at_word storage typed env i names below None w h a = tt
  at_word true typed env i names below (Some (words.Storage c)) w h a =
      let t = token i env (Reserved (storage_word c)) (a ∙ ap (λ v. Some (Reserved v)) (word_found w (words.Storage c) h)) names in
      before true typed (Storage i.next c) t (omega (arith, counted t)) (λ ss r. record { thing = Storage i.next c ss; holds = (subst (λ v. WellFormedSpecifiers env v ss) (or_same parts sound typed) r.0, tt, tt); spells = λ z. (z, refl) })
  at_word false typed env i names below (Some (words.Storage c)) w h a = tt
  at_word storage typed env i names below (Some (words.Qualified c)) w h a =
      let t = token i env (Reserved (qualifier_word c)) (a ∙ ap (λ v. Some (Reserved v)) (word_found w (words.Qualified c) h)) names in
      before storage typed (Qualified i.next c) t (omega (arith, counted t)) (λ ss r.
      record { thing = Qualified i.next c ss; holds = (subst (λ v. WellFormedSpecifiers env v ss) (or_same parts sound typed) r.0, may_as parts sound storage ss (Qualified i.next c ss) (λ n. n) r.1, tt); spells = λ z. (z, refl) })
  at_word storage typed env i names below (Some (words.Basic c)) w h a =
      let t = token i env (Reserved (basic_word c)) (a ∙ ap (λ v. Some (Reserved v)) (word_found w (words.Basic c) h)) names in
      before storage typed (Basic i.next c) t (omega (arith, counted t)) (λ ss r.
      record { thing = Basic i.next c ss; holds = (subst (λ v. WellFormedSpecifiers env v ss) (or_true parts sound typed) r.0, may_as parts sound storage ss (Basic i.next c ss) (λ n. n) r.1, tt); spells = λ z. (z, refl) })
  at_word storage typed env i names below (Some (words.Record c)) w h a =
      bind-does _ _ (record_specifier parts c i) _ (record-fails c storage typed env i (a ∙ ap (λ v. Some (Reserved v)) (word_found w (words.Record c) h)) names below) (λ e v. v) (λ f j q. q)
  at_word storage typed env i names below (Some words.Enum) w h a =
      bind-does _ _ (enum_specifier parts i) _ (enum-fails storage typed env i (a ∙ ap (λ v. Some (Reserved v)) (word_found w words.Enum h)) names below) (λ e v. v) (λ f j q. q)

  at_name : (storage typed : Bool) (env : Env) (i : Input) (x : List ℕ) → i.names ≡ names_of env → ahead i ≡ Some (symbol.Identifier x)
      → Does (IsNext storage typed env i) (Viable (specifier_lists storage typed) env i) (specifier_by parts storage typed (Some (symbol.Identifier x)) i)
  unfolding input.is_typedef_name spell_expr WellFormed
  at_name storage true env i x names a = tt
  at_name storage false env i x names a = choose-fails _ _ (or_false (visible i.names x)) ((λ w. Some (TypedefName w)) <$> word x) (pure None) i
      (λ h. let t = token i env (symbol.Identifier x) a names in
      let w : Word = record { token = i.next; text = x } in
      before storage false (TypedefName w) t (omega (arith, counted t)) (λ ss r.
      record {
        thing = TypedefName w ss;
        holds = ((refl, sym (ap (λ v. or_false (visible v x)) names ∙ names_are env x) ∙ h, r.0), may_as parts sound storage ss (TypedefName w ss) (λ n. n) r.1, tt);
        spells = λ z. (z, refl);
      }))
      (λ _. tt)

  specifier-by : (storage typed : Bool) (env : Env) (i : Input) → i.names ≡ names_of env → length i.rest < suc d → (s : Option Symbol) → ahead i ≡ s
      → Does (IsNext storage typed env i) (Viable (specifier_lists storage typed) env i) (specifier_by parts storage typed s i)
  specifier-by storage typed env i names below (Some (Reserved w)) a = at_word storage typed env i names below (specifier_word w) w refl a
  specifier-by storage typed env i names below (Some (symbol.Identifier x)) a = at_name storage typed env i x names a
  specifier-by storage typed env i names below None a = tt
  specifier-by storage typed env i names below (Some _) a = tt

  from-fails : (storage : Bool) (n : ℕ) (typed : Bool) (env : Env) (i : Input) → i.names ≡ names_of env → length i.rest < suc d → length i.rest < n → Fails (Viable (specifier_lists storage typed) env i) (specifiers_from parts storage n typed i)
  unfolding specifiers_from specifier
  from-fails storage zero typed env i names below enough = no_turns enough
  from-fails storage (suc n) typed env i names below enough =
      bind-does _ _ (specifier parts storage typed i) (specifiers_behind (specifiers_from parts storage n) typed) (specifier-by storage typed env i names below (ahead i) refl) (λ e v. v) (by (from-fails storage n))
    where
      by : ((typed : Bool) (env : Env) (i : Input) → i.names ≡ names_of env → length i.rest < suc d → length i.rest < n → Fails (Viable (specifier_lists storage typed) env i) (specifiers_from parts storage n typed i))
          → (o : Option (Specifiers → Specifiers)) (j : Input) → IsNext storage typed env i o j → Fails (Viable (specifier_lists storage typed) env i) (specifiers_behind (specifiers_from parts storage n) typed o j)
      by rest None j q = tt
      by rest (Some f) j q = bind-does (λ x k. Unit {0}) (Viable (specifier_lists storage typed) env i) (specifiers_from parts storage n (typed_by typed f) j) (λ ss. pure (f ss))
          (rest (typed_by typed f) q.inner j q.names (omega (arith, q.shorter, below)) (omega (arith, q.shorter, enough))) q.rest (λ ss k t. tt)

  pub specifiers_of-fails : (storage : Bool) → ViableSpecifiers (suc d) storage (specifiers_of parts storage)
  unfolding specifiers_of
  specifiers_of-fails storage env i names below = from-fails storage (turns i) false env i names below (omega arith)
