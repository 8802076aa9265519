-- Faults in members and enumerators (6.5.2).
use Rattle.std.proofs.Common.{◌≡◌, ℕ, ◌<◌, Bool, true, false, List, ◌∷◌, length, arith, refl, ap}
use Rattle.pw_tree.specs.Scopes.{Env, declare_plain, after_expr, after_declarator, after_enumerators}
use Rattle.pw_tree.specs.Spelling.{identifier, spell_expr, spell_declarator, spell_member_declarators, spell_enumerators}
use Rattle.pw_tree.specs.Symbols.{Symbol, Sign}
use Rattle.pw_tree.specs.Trees.{Word, Expr, MemberDeclarators, NoMemberDeclarator, PlainMember, BitField, Padding, Enumerators, NoEnumerator, PlainEnumerator, ValuedEnumerator}
use Rattle.pw_tree.specs.WellFormed.{HasMemberDeclarator, HasEnumerator, WellFormed, WellFormedMemberDeclarators, WellFormedEnumerators}
use Rattle.pw_token.specs.declared.symbol.Mark.TheVariants as m
use Rattle.pw_parse_grammar.specs.declared.place.Place.TheVariants.{Named}
use Rattle.pw_parse_grammar.specs.Input.{Input, step, sees, Parser, ◌>>=◌, ◌>>◌, pure, ◌<$>◌, expect}
use Rattle.pw_parse_grammar.specs.Input as input
use Rattle.pw_parse_grammar.specs.Parts.{Parts, Declared}
use Rattle.pw_parse_grammar.specs.Specifiers.{width, padding, named_member, member_declarator, member_declarators, enumerator, some_enumerators, enumerators}
use Rattle.pw_parse_grammar.proofs.Trees.Base.{names_of}
use Rattle.pw_parse_grammar.proofs.Sound.Base.{both, sign}
use Rattle.pw_parse_grammar.proofs.Sound.Parts.{IsExpr, IsDeclarator, Sound}
use Rattle.pw_parse_grammar.proofs.Sound.Primaries.{identifier-sound}
use Rattle.pw_parse_grammar.proofs.Sound.Members.{declared_plain, some_enumerators-sound}
use Rattle.pw_parse_grammar.proofs.Viable.Base.{Does, Fails, bind-fails, bind-does, choose-fails, expected-fails, eaten-fails, Form, Begins, Viable, missing, embed, as_part, absent, counted}
use Rattle.pw_parse_grammar.proofs.Viable.Lists.{Listed, more_listed, comma-fails}
use Rattle.pw_parse_grammar.proofs.Viable.Parts.{fresh, exprs, ViableParts}
use Rattle.pw_parse_grammar.proofs.Viable.Primaries.{identifier-fails}

-- ---- 6.5.2.2

-- enumerators, one or more
abbrev pub enumerator_lists : Form Enumerators
enumerator_lists = record { holds = λ env es. WellFormedEnumerators env es × HasEnumerator es; put = spell_enumerators true }

-- enumerators and the `}` behind them
abbrev pub enumerations : Form Enumerators
enumerations = record { holds = enumerator_lists.holds; put = λ es z. spell_enumerators true es (Sign m.CloseBrace ∷ z) }

enumerators-comma : (es : Enumerators) → HasEnumerator es → (z : List Symbol) → spell_enumerators false es z ≡ Sign m.Comma ∷ spell_enumerators true es z
unfolding spell_expr
enumerators-comma NoEnumerator h z = absurd h
enumerators-comma (PlainEnumerator w es) h z = refl
enumerators-comma (ValuedEnumerator w e es) h z = refl

plain-before : (env : Env) (w : Word) (es : Enumerators) → enumerator_lists.holds (declare_plain w env) es → Begins enumerator_lists env (λ z. identifier w ∷ Sign m.Comma ∷ spell_enumerators true es z)
unfolding spell_expr WellFormed
plain-before env w es r = record { thing = PlainEnumerator w es; holds = (r.0, tt); spells = λ z. (z, ap (λ v. identifier w ∷ v) (enumerators-comma es r.1 z)) }

valued-before : (env : Env) (w : Word) (e : Expr) (es : Enumerators) → (exprs 14).holds env e → enumerator_lists.holds (declare_plain w (after_expr env e)) es
    → Begins enumerator_lists env (λ z. identifier w ∷ Sign m.Equal ∷ spell_expr e (Sign m.Comma ∷ spell_enumerators true es z))
unfolding spell_expr WellFormed
valued-before env w e es q r = record { thing = ValuedEnumerator w e es; holds = ((q.1, q.0, r.0), tt); spells = λ z. (z, ap (λ v. identifier w ∷ Sign m.Equal ∷ spell_expr e v) (enumerators-comma es r.1 z)) }

-- ---- 6.5.2.1

-- declarators of members, one or more
abbrev pub member_declarator_lists : Bool → Form MemberDeclarators
member_declarator_lists typed = record { holds = λ env ds. WellFormedMemberDeclarators env typed ds × HasMemberDeclarator ds; put = spell_member_declarators true }

members-comma : (ds : MemberDeclarators) → HasMemberDeclarator ds → (z : List Symbol) → spell_member_declarators false ds z ≡ Sign m.Comma ∷ spell_member_declarators true ds z
unfolding spell_expr
members-comma NoMemberDeclarator h z = absurd h
members-comma (PlainMember d ds) h z = refl
members-comma (BitField d n e ds) h z = refl
members-comma (Padding n e ds) h z = refl

module _ (parts : Parts) (sound : Sound parts) (d : ℕ) (viable : ViableParts d parts) where
  enumerator-fails : (env : Env) (i : Input) → i.names ≡ names_of env → length i.rest < d → Does (λ f j. Listed (Viable enumerator_lists) env i j) (Viable enumerator_lists env i) (enumerator parts i)
  unfolding enumerator spell_expr WellFormed
  enumerator-fails env i names below =
      bind-fails _ _ (input.identifier i) _ (identifier-sound env i names) (identifier-fails _ i (absent enumerator_lists i (PlainEnumerator (fresh env) NoEnumerator) (tt, tt))) (λ e v. v) (λ w x q.
      eaten-fails _ _ x env m.Equal (parts.expr 14 >>= λ e. input.declare (w.text, false) >> pure (ValuedEnumerator w e)) (input.declare (w.text, false) >> pure (PlainEnumerator w)) q.reads.names
      (λ y equal. bind-fails _ _ (parts.expr 14 y) _ (sound.expr 14 (omega arith) env y equal.names) (viable.expr 14 (omega arith) env y equal.names (omega (arith, below, counted (both q.reads equal))))
      (λ e v. embed (both q.reads equal) v (λ e r. record { thing = ValuedEnumerator w e NoEnumerator; holds = ((r.1, r.0, tt), tt); spells = λ z. (z, refl) }))
      (λ e u s. more_listed (both q.reads (both equal (both s.reads (declared_plain (after_expr env e) w u s.reads.names)))) (λ es r. valued-before env w e es (s.holds, s.low) r)))
      (λ _. more_listed (both q.reads (declared_plain env w x q.reads.names)) (λ es r. plain-before env w es r)))

  pub enumerators-fails : (env : Env) (i : Input) → i.names ≡ names_of env → length i.rest < d → Fails (Viable enumerations env i) (enumerators parts i)
  unfolding enumerators some_enumerators
  enumerators-fails env i names below =
      bind-fails _ _ (some_enumerators parts i) _ (some_enumerators-sound parts sound env i names) (comma-fails (Viable enumerator_lists) d NoEnumerator (enumerator parts) enumerator-fails env i names below)
      (λ e v. as_part v closes)
      (λ es j q. expected-fails _ _ j (after_enumerators env es) m.CloseBrace (pure es) q.reads.names (missing q.reads (closes es (q.holds, q.has))) (λ k closing. tt))
    where
      closes : (es : Enumerators) → enumerator_lists.holds env es → Begins enumerations env (spell_enumerators true es)
      closes es h = record { thing = es; holds = h; spells = λ z. (Sign m.CloseBrace ∷ z, refl) }

  -- a width behind the `:`
  width-fails : (env : Env) (i : Input) → sees m.Colon i ≡ true → i.names ≡ names_of env → length i.rest < d → Does (λ w j. IsExpr 14 env (step i) w.1 j) (Viable (exprs 14) env (step i)) (width parts i)
  unfolding width
  width-fails env i h names below =
      let colon = sign i env m.Colon h names in
      bind-fails _ _ (parts.expr 14 (step i)) _ (sound.expr 14 (omega arith) env (step i) colon.names) (viable.expr 14 (omega arith) env (step i) colon.names (omega (arith, below, counted colon))) (λ e v. v) (λ e j s. s)

  abbrev Lists : Bool → Env → Input → Parser (MemberDeclarators → MemberDeclarators) → Input → Type 0
  Lists typed env i p j = Does (λ f k. Listed (Viable (member_declarator_lists typed)) env i k) (Viable (member_declarator_lists typed) env i) (p j)

  padding-fails : (typed : Bool) (env : Env) (i : Input) → sees m.Colon i ≡ true → i.names ≡ names_of env → length i.rest < d → Lists typed env i (padding parts) i
  unfolding padding spell_expr WellFormed
  padding-fails typed env i h names below =
      let colon = sign i env m.Colon h names in
      bind-does _ _ (width parts i) _ (width-fails env i h names below)
      (λ e v. embed colon v (λ e r. record { thing = Padding i.next e NoMemberDeclarator; holds = ((r.1, r.0, tt), tt); spells = λ z. (z, refl) }))
      (λ w j s. more_listed (both colon s.reads) (λ ds r.
      record { thing = Padding i.next w.1 ds; holds = ((s.low, s.holds, r.0), tt); spells = λ z. (z, ap (λ v. Sign m.Colon ∷ spell_expr w.1 v) (members-comma ds r.1 z)) }))

  bit_field-fails : (typed : Bool) (env : Env) (i x : Input) (named : Declared) → IsDeclarator Named typed env i named x → sees m.Colon x ≡ true → length x.rest < d → Lists typed env i ((λ w. BitField named.tree w.0 w.1) <$> width parts) x
  unfolding spell_expr WellFormed
  bit_field-fails typed env i x named q h below =
      let colon = sign x (after_declarator env named.tree) m.Colon h q.reads.names in
      bind-does _ _ (width parts x) _ (width-fails (after_declarator env named.tree) x h q.reads.names below)
      (λ e v. embed (both q.reads colon) v (λ e r. record { thing = BitField named.tree x.next e NoMemberDeclarator; holds = ((q.holds, r.1, r.0, tt), tt); spells = λ z. (z, refl) }))
      (λ w j s. more_listed (both q.reads (both colon s.reads)) (λ ds r.
      record { thing = BitField named.tree x.next w.1 ds; holds = ((q.holds, s.low, s.holds, r.0), tt); spells = λ z. (z, ap (λ v. spell_declarator named.tree (Sign m.Colon ∷ spell_expr w.1 v)) (members-comma ds r.1 z)) }))

  named_member-fails : (typed : Bool) (env : Env) (i : Input) → i.names ≡ names_of env → length i.rest < d → Lists typed env i (named_member parts typed) i
  unfolding named_member spell_expr WellFormed
  named_member-fails typed env i names below =
      bind-fails _ _ (parts.declarator Named typed i) _ (sound.declarator Named typed env i names) (viable.declarator Named typed env i names below)
      (λ e v. as_part v (λ x h. record { thing = PlainMember x NoMemberDeclarator; holds = ((h, tt), tt); spells = λ z. (z, refl) }))
      (λ x j q. choose-fails _ _ (sees m.Colon j) ((λ w. BitField x.tree w.0 w.1) <$> width parts) (pure (PlainMember x.tree)) j
      (λ h. bit_field-fails typed env i j x q h (omega (arith, below, counted q.reads)))
      (λ _. more_listed q.reads (λ ds r. record { thing = PlainMember x.tree ds; holds = ((q.holds, r.0), tt); spells = λ z. (z, ap (spell_declarator x.tree) (members-comma ds r.1 z)) })))

  pub member_declarators-fails : (typed : Bool) (env : Env) (i : Input) → i.names ≡ names_of env → length i.rest < d → Fails (Viable (member_declarator_lists typed) env i) (member_declarators parts typed i)
  unfolding member_declarators member_declarator
  member_declarators-fails typed env i names below = comma-fails (Viable (member_declarator_lists typed)) d NoMemberDeclarator (member_declarator parts typed) (λ env i names below.
      choose-fails _ _ (sees m.Colon i) (padding parts) (named_member parts typed) i (λ h. padding-fails typed env i h names below) (λ _. named_member-fails typed env i names below)) env i names below
