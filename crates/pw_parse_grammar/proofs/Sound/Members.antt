-- Members and enumerators that are read are trees (6.5.2).
use Rattle.std.proofs.Common.{◌≡◌, ℕ, ◌+◌, Bool, true, false, if◌then◌else◌, [], ◌∷◌, length, ◌++◌, arith, refl, sym, ap, ◌∙◌, subst}
use Rattle.pw_tree.specs.Numbering.{past_expr, past_declarator, Numbered, NumberedMemberDeclarators, NumberedEnumerators, NumberedDeclarator}
use Rattle.pw_tree.specs.Scopes.{declare_plain, after_expr, after_member_declarators, after_enumerators, after_declarator, Env}
use Rattle.pw_tree.specs.Spelling.{spell_expr, spell_member_declarators, spell_enumerators}
use Rattle.pw_tree.specs.Symbols.{Sign}
use Rattle.pw_tree.specs.Trees.{Word, Expr, MemberDeclarators, NoMemberDeclarator, PlainMember, BitField, Padding, Enumerators, NoEnumerator, PlainEnumerator, ValuedEnumerator}
use Rattle.pw_tree.specs.WellFormed.{HasMemberDeclarator, HasEnumerator, WellFormed, WellFormedMemberDeclarators, WellFormedEnumerators}
use Rattle.pw_token.specs.declared.symbol.Mark.TheVariants as m
use Rattle.pw_parse_grammar.specs.declared.place.Place.TheVariants.{Named}
use Rattle.pw_parse_grammar.specs.Input.{Input, first_of_rest, ahead, is_none_left, at_end, step_to, step, same_mark, same_keyword, is_mark, is_keyword, sees, sees_keyword, or_false, Outcome, Parser, and_then, ◌>>=◌, ◌>>◌, pure, ◌<$>◌, fault, asks, peek, here, skip, take_number, word, past, past_keyword, eat, eat_keyword, expect, expect_keyword, identifier_by, ordinary_by, ordinary, declare_all, leave, since, turns, go_on, repeat, list_of, turn_of, while_some, turn_with, one_or_more, unless_comma, Binding}
use Rattle.pw_parse_grammar.specs.Input as input
use Rattle.pw_parse_grammar.specs.Parts.{Parts, Declared}
use Rattle.pw_parse_grammar.specs.Input as input
use Rattle.pw_parse_grammar.specs.Specifiers.{width, padding, named_member, member_declarator, member_declarators, enumerator, some_enumerators, enumerators}
use Rattle.pw_parse_grammar.proofs.Trees.Base.{names_of}
use Rattle.pw_parse_grammar.proofs.Sound.Base.{Post, bind, choose_parser, Reads, both, sign, expected, eaten}
use Rattle.pw_parse_grammar.proofs.Sound.Lists.{IsListed, comma-sound}
use Rattle.pw_parse_grammar.proofs.Sound.Parts.{IsExpr, IsDeclarator, Sound}
use Rattle.pw_parse_grammar.proofs.Sound.Primaries.{IsWord, identifier-sound}

-- ---- 6.5.2.2

-- enumerators from i on, one or more, behind the comma before them
pub record IsEnumerators (env : Env) (i : Input) (es : Enumerators) (j : Input) : Type 0 where
  pub reads : Reads i j (after_enumerators env es) (spell_enumerators true es)
  pub holds : WellFormedEnumerators env es
  pub has : HasEnumerator es
  pub numbered : NumberedEnumerators true i.next es
  -- with a comma before them
  pub commas : (k : Input) (inner : Env) → Reads k i inner (λ z. Sign m.Comma ∷ z) → Reads k j (after_enumerators env es) (spell_enumerators false es) × NumberedEnumerators false k.next es

plain_enumerator-listed : (env : Env) (i x j : Input) (w : Word) → IsWord env i w x → Reads x j (declare_plain w env) (λ z. z) → IsListed IsEnumerators NoEnumerator env i (PlainEnumerator w) j
unfolding spell_expr after_expr WellFormed Numbered
plain_enumerator-listed env i x j w q d = record {
  inner = declare_plain w env;
  names = d.names;
  last = record {
    reads = both q.reads d;
    holds = tt;
    has = tt;
    numbered = (q.numbered, tt);
    commas = λ k inner c. (both c (both q.reads d), (q.numbered ∙ c.next, tt));
  };
  more = λ k c es end r.
      let rest = r.commas j (declare_plain w env) c in
      let past : (n : ℕ) → i.next ≡ n → j.next ≡ n + 1 = λ n f. omega (arith, d.next, q.reads.next, f) in
      record {
        reads = both q.reads (both d rest.0);
        holds = r.holds;
        has = tt;
        numbered = (q.numbered, subst (λ v. NumberedEnumerators false v es) (past i.next refl) rest.1);
        commas = λ h inner f. (both f (both q.reads (both d rest.0)), (q.numbered ∙ f.next, subst (λ v. NumberedEnumerators false v es) (past (h.next + 1) f.next) rest.1));
      };
}

valued_enumerator-listed : (env : Env) (i x y u j : Input) (w : Word) (e : Expr) → IsWord env i w x → Reads x y env (λ z. Sign m.Equal ∷ z) → IsExpr 14 env y e u → Reads u j (declare_plain w (after_expr env e)) (λ z. z)
    → IsListed IsEnumerators NoEnumerator env i (ValuedEnumerator w e) j
unfolding spell_expr after_expr WellFormed Numbered
valued_enumerator-listed env i x y u j w e q equal s d =
    let at_value : (n : ℕ) → i.next ≡ n → y.next ≡ n + 2 = λ n f. omega (arith, equal.next, q.reads.next, f) in
    let past : (n : ℕ) → i.next ≡ n → j.next ≡ n + 2 + length (spell_expr e []) = λ n f. omega (arith, d.next, s.reads.next, equal.next, q.reads.next, f) in
    record {
      inner = declare_plain w (after_expr env e);
      names = d.names;
      last = record {
        reads = both q.reads (both equal (both s.reads d));
        holds = (s.low, s.holds, tt);
        has = tt;
        numbered = (q.numbered, subst (λ v. Numbered v e) (at_value i.next refl) s.numbered, tt);
        commas = λ k inner c. (both c (both q.reads (both equal (both s.reads d))), (q.numbered ∙ c.next, subst (λ v. Numbered v e) (at_value (k.next + 1) c.next) s.numbered, tt));
      };
      more = λ k c es end r.
          let rest = r.commas j (declare_plain w (after_expr env e)) c in
          record {
            reads = both q.reads (both equal (both s.reads (both d rest.0)));
            holds = (s.low, s.holds, r.holds);
            has = tt;
            numbered = (q.numbered, subst (λ v. Numbered v e) (at_value i.next refl) s.numbered, subst (λ v. NumberedEnumerators false v es) (past i.next refl) rest.1);
            commas = λ h inner f. (both f (both q.reads (both equal (both s.reads (both d rest.0)))), (q.numbered ∙ f.next, subst (λ v. Numbered v e) (at_value (h.next + 1) f.next) s.numbered, subst (λ v. NumberedEnumerators false v es) (past (h.next + 1) f.next) rest.1));
          };
    }

-- what is declared is visible from then on
pub declared_plain : (env : Env) (w : Word) (i : Input) → i.names ≡ names_of env → Reads i (record i { names = i.names ++ (w.text, false) ∷ [] }) (declare_plain w env) (λ z. z)
declared_plain env w i names = record { text = refl; next = omega arith; names = ap (λ v. v ++ (w.text, false) ∷ []) names; plain = λ z. refl }

module _ (parts : Parts) (sound : Sound parts) where
  enumerator-sound : (env : Env) (i : Input) → i.names ≡ names_of env → Post (IsListed IsEnumerators NoEnumerator env i) (enumerator parts i)
  unfolding enumerator
  enumerator-sound env i names =
      bind _ (input.identifier i) (λ w. input.eat m.Equal >>= λ b. if b then (parts.expr 14 >>= λ e. input.declare (w.text, false) >> pure (ValuedEnumerator w e)) else (input.declare (w.text, false) >> pure (PlainEnumerator w))) (identifier-sound env i names) (λ w x q.
      eaten _ x env m.Equal (parts.expr 14 >>= λ e. input.declare (w.text, false) >> pure (ValuedEnumerator w e)) (input.declare (w.text, false) >> pure (PlainEnumerator w)) q.reads.names
      (λ y equal. bind _ (parts.expr 14 y) (λ e. input.declare (w.text, false) >> pure (ValuedEnumerator w e)) (sound.expr 14 (omega arith) env y equal.names) (λ e u s.
      let d = declared_plain (after_expr env e) w u s.reads.names in
      valued_enumerator-listed env i x y u (record u { names = u.names ++ (w.text, false) ∷ [] }) w e q equal s d))
      (λ _. plain_enumerator-listed env i x (record x { names = x.names ++ (w.text, false) ∷ [] }) w q (declared_plain env w x q.reads.names)))

  pub some_enumerators-sound : (env : Env) (i : Input) → i.names ≡ names_of env → Post (IsEnumerators env i) (some_enumerators parts i)
  unfolding some_enumerators
  some_enumerators-sound env i names = comma-sound IsEnumerators NoEnumerator (enumerator parts) enumerator-sound env i names

  -- enumerators and the `}` behind them
  pub record IsEnumeration (env : Env) (i : Input) (es : Enumerators) (j : Input) : Type 0 where
    pub reads : Reads i j (after_enumerators env es) (λ z. spell_enumerators true es (Sign m.CloseBrace ∷ z))
    pub holds : WellFormedEnumerators env es
    pub has : HasEnumerator es
    pub numbered : NumberedEnumerators true i.next es

  pub enumerators-sound : (env : Env) (i : Input) → i.names ≡ names_of env → Post (IsEnumeration env i) (enumerators parts i)
  unfolding enumerators
  enumerators-sound env i names =
      bind _ (some_enumerators parts i) (λ es. expect m.CloseBrace >> pure es) (some_enumerators-sound env i names) (λ es j q.
      expected _ j (after_enumerators env es) m.CloseBrace (pure es) q.reads.names (λ k closing.
      record { reads = both q.reads closing; holds = q.holds; has = q.has; numbered = q.numbered }))

  -- ---- 6.5.2.1

  -- declarators of members from i on, one or more, behind the comma before them
  pub record IsMemberDeclarators (typed : Bool) (env : Env) (i : Input) (ds : MemberDeclarators) (j : Input) : Type 0 where
    pub reads : Reads i j (after_member_declarators env ds) (spell_member_declarators true ds)
    pub holds : WellFormedMemberDeclarators env typed ds
    pub has : HasMemberDeclarator ds
    pub numbered : NumberedMemberDeclarators true i.next ds
    -- with a comma before them
    pub commas : (k : Input) (inner : Env) → Reads k i inner (λ z. Sign m.Comma ∷ z) → Reads k j (after_member_declarators env ds) (spell_member_declarators false ds) × NumberedMemberDeclarators false k.next ds

  abbrev IsMemberListed : Bool → Env → Input → (MemberDeclarators → MemberDeclarators) → Input → Type 0
  IsMemberListed typed = IsListed (IsMemberDeclarators typed) NoMemberDeclarator

  plain_member-listed : (typed : Bool) (env : Env) (i j : Input) (d : Declared) → IsDeclarator Named typed env i d j → IsMemberListed typed env i (PlainMember d.tree) j
  unfolding spell_expr after_expr WellFormed Numbered
  plain_member-listed typed env i j d q =
      let past : (n : ℕ) → i.next ≡ n → j.next ≡ past_declarator n d.tree = λ n f. omega (arith, q.reads.next, f) in
      record {
        inner = after_declarator env d.tree;
        names = q.reads.names;
        last = record {
          reads = q.reads;
          holds = (q.holds, tt);
          has = tt;
          numbered = (q.numbered, tt);
          commas = λ k inner c. (both c q.reads, (subst (λ v. NumberedDeclarator v d.tree) c.next q.numbered, tt));
        };
        more = λ k c ds end r.
            let rest = r.commas j (after_declarator env d.tree) c in
            record {
              reads = both q.reads rest.0;
              holds = (q.holds, r.holds);
              has = tt;
              numbered = (q.numbered, subst (λ v. NumberedMemberDeclarators false v ds) (past i.next refl) rest.1);
              commas = λ h inner f. (both f (both q.reads rest.0), (subst (λ v. NumberedDeclarator v d.tree) f.next q.numbered, subst (λ v. NumberedMemberDeclarators false v ds) (past (h.next + 1) f.next) rest.1));
            };
      }

  bit_field-listed : (typed : Bool) (env : Env) (i x y j : Input) (d : Declared) (e : Expr) → IsDeclarator Named typed env i d x → Reads x y (after_declarator env d.tree) (λ z. Sign m.Colon ∷ z) → IsExpr 14 (after_declarator env d.tree) y e j
      → IsMemberListed typed env i (BitField d.tree x.next e) j
  unfolding spell_expr after_expr WellFormed Numbered
  bit_field-listed typed env i x y j d e q colon s =
      let at_colon : (n : ℕ) → i.next ≡ n → x.next ≡ past_declarator n d.tree = λ n f. omega (arith, q.reads.next, f) in
      let past : j.next ≡ past_expr (x.next + 1) e = omega (arith, colon.next, s.reads.next) in
      let width = subst (λ v. Numbered v e) colon.next s.numbered in
      record {
        inner = after_expr (after_declarator env d.tree) e;
        names = s.reads.names;
        last = record {
          reads = both q.reads (both colon s.reads);
          holds = (q.holds, s.low, s.holds, tt);
          has = tt;
          numbered = (q.numbered, at_colon i.next refl, width, tt);
          commas = λ k inner c. (both c (both q.reads (both colon s.reads)), (subst (λ v. NumberedDeclarator v d.tree) c.next q.numbered, at_colon (k.next + 1) c.next, width, tt));
        };
        more = λ k c ds end r.
            let rest = r.commas j (after_expr (after_declarator env d.tree) e) c in
            record {
              reads = both q.reads (both colon (both s.reads rest.0));
              holds = (q.holds, s.low, s.holds, r.holds);
              has = tt;
              numbered = (q.numbered, at_colon i.next refl, width, subst (λ v. NumberedMemberDeclarators false v ds) past rest.1);
              commas = λ h inner f. (both f (both q.reads (both colon (both s.reads rest.0))), (subst (λ v. NumberedDeclarator v d.tree) f.next q.numbered, at_colon (h.next + 1) f.next, width, subst (λ v. NumberedMemberDeclarators false v ds) past rest.1));
            };
      }

  padding-listed : (typed : Bool) (env : Env) (i y j : Input) (e : Expr) → Reads i y env (λ z. Sign m.Colon ∷ z) → IsExpr 14 env y e j → IsMemberListed typed env i (Padding i.next e) j
  unfolding spell_expr after_expr WellFormed Numbered
  padding-listed typed env i y j e colon s =
      let past : j.next ≡ past_expr (i.next + 1) e = omega (arith, colon.next, s.reads.next) in
      let width = subst (λ v. Numbered v e) colon.next s.numbered in
      record {
        inner = after_expr env e;
        names = s.reads.names;
        last = record {
          reads = both colon s.reads;
          holds = (s.low, s.holds, tt);
          has = tt;
          numbered = (refl, width, tt);
          commas = λ k inner c. (both c (both colon s.reads), (c.next, width, tt));
        };
        more = λ k c ds end r.
            let rest = r.commas j (after_expr env e) c in
            record {
              reads = both colon (both s.reads rest.0);
              holds = (s.low, s.holds, r.holds);
              has = tt;
              numbered = (refl, width, subst (λ v. NumberedMemberDeclarators false v ds) past rest.1);
              commas = λ h inner f. (both f (both colon (both s.reads rest.0)), (f.next, width, subst (λ v. NumberedMemberDeclarators false v ds) past rest.1));
            };
      }

  padding-sound : (typed : Bool) (env : Env) (i : Input) → sees m.Colon i ≡ true → i.names ≡ names_of env → Post (IsMemberListed typed env i) (padding parts i)
  unfolding padding width
  padding-sound typed env i h names =
      let colon = sign i env m.Colon h names in
      bind _ (and_then (parts.expr 14 (step i)) (λ e. pure (i.next, e))) (λ w. pure (Padding w.0 w.1))
      (bind (λ w j. (w.0 ≡ i.next) × IsExpr 14 env (step i) w.1 j) (parts.expr 14 (step i)) (λ e. pure (i.next, e)) (sound.expr 14 (omega arith) env (step i) colon.names) (λ e j s. (refl, s)))
      (λ w j q. subst (λ v. IsMemberListed typed env i (Padding v w.1) j) (sym q.0) (padding-listed typed env i (step i) j w.1 colon q.1))

  bit_field-sound : (typed : Bool) (env : Env) (i x : Input) (d : Declared) → IsDeclarator Named typed env i d x → sees m.Colon x ≡ true → Post (IsMemberListed typed env i) (((λ w. BitField d.tree w.0 w.1) <$> width parts) x)
  unfolding width
  bit_field-sound typed env i x d q h =
      let colon = sign x (after_declarator env d.tree) m.Colon h q.reads.names in
      bind _ (and_then (parts.expr 14 (step x)) (λ e. pure (x.next, e))) (λ w. pure (BitField d.tree w.0 w.1))
      (bind (λ w j. (w.0 ≡ x.next) × IsExpr 14 (after_declarator env d.tree) (step x) w.1 j) (parts.expr 14 (step x)) (λ e. pure (x.next, e)) (sound.expr 14 (omega arith) (after_declarator env d.tree) (step x) colon.names) (λ e j s. (refl, s)))
      (λ w j s. subst (λ v. IsMemberListed typed env i (BitField d.tree v w.1) j) (sym s.0) (bit_field-listed typed env i x (step x) j d w.1 q colon s.1))

  named_member-sound : (typed : Bool) (env : Env) (i : Input) → i.names ≡ names_of env → Post (IsMemberListed typed env i) (named_member parts typed i)
  unfolding named_member
  named_member-sound typed env i names =
      bind _ (parts.declarator Named typed i) (λ d. input.asks (sees m.Colon) >>= λ b. if b then (λ w. BitField d.tree w.0 w.1) <$> width parts else pure (PlainMember d.tree)) (sound.declarator Named typed env i names) (λ d x q.
      choose_parser _ (sees m.Colon x) ((λ w. BitField d.tree w.0 w.1) <$> width parts) (pure (PlainMember d.tree)) x
      (λ h. bit_field-sound typed env i x d q h)
      (λ _. plain_member-listed typed env i x d q))

  member_declarator-sound : (typed : Bool) (env : Env) (i : Input) → i.names ≡ names_of env → Post (IsMemberListed typed env i) (member_declarator parts typed i)
  unfolding member_declarator
  member_declarator-sound typed env i names = choose_parser _ (sees m.Colon i) (padding parts) (named_member parts typed) i
      (λ h. padding-sound typed env i h names)
      (λ _. named_member-sound typed env i names)

  pub member_declarators-sound : (typed : Bool) (env : Env) (i : Input) → i.names ≡ names_of env → Post (IsMemberDeclarators typed env i) (member_declarators parts typed i)
  unfolding member_declarators
  member_declarators-sound typed env i names = comma-sound (IsMemberDeclarators typed) NoMemberDeclarator (member_declarator parts typed) (member_declarator-sound typed) env i names
