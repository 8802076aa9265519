-- Lists of parameters that are read are trees (6.5.4.3).
use Rattle.std.proofs.Common.{◌≡◌, ℕ, ◌+◌, Bool, true, false, if◌then◌else◌, List, [], ◌∷◌, length, Option, Some, None, ◌++◌, take, drop, arith, refl, sym, ap, ◌∙◌, subst}
use Rattle.pw_tree.specs.Numbering.{past_specifiers, past_declarator, Numbered, NumberedSpecifiers, NumberedDeclarator, NumberedParameters}
use Rattle.pw_tree.specs.Scopes.{is_typedef_name, declare_plain, declare_plains, has_typedef, has_type, name_of, name_in, declare_name, declare, after_expr, after_postfixes, after_arguments, after_operations, after_specifiers, after_members, after_member_declarators, after_enumerators, after_declarator, after_core, after_suffixes, after_parameter, after_parameters, after_optional, after_init, after_inits, after_initializer, after_name, after_init_declarators, after_decl, after_decls, after_label, after_labels, after_stmt, after_alternative, behind_name, behind_core, enter_first, enter, after_external, Env}
use Rattle.pw_tree.specs.Spelling.{spell_expr, spell_specifiers, spell_declarator, spell_parameters}
use Rattle.pw_tree.specs.Symbols.{Symbol, Sign}
use Rattle.pw_tree.specs.Trees.{Word, Specifiers, Parameters, NoParameter, Parameter}
use Rattle.pw_tree.specs.WellFormed.{HasSpecifier, HasParameter, WellFormed, WellFormedParameters}
use Rattle.pw_token.specs.declared.symbol.Mark.TheVariants as m
use Rattle.pw_parse_grammar.specs.declared.place.Place.TheVariants.{Either}
use Rattle.pw_parse_grammar.specs.Input.{Input, step, sees, ◌>>=◌, ◌>>◌, pure, ◌<$>◌, past, eat, turns, turn_with, Binding}
use Rattle.pw_parse_grammar.specs.Parts.{Parts, Declared}
use Rattle.pw_tree.specs.Scopes as scopes
use Rattle.pw_parse_grammar.specs.Declarators as rules
use Rattle.pw_parse_grammar.specs.Declarators.{parameters_end, parameter, parameters}
use Rattle.pw_parse_grammar.specs.Expressions.{some_specifiers}
use Rattle.pw_parse_grammar.proofs.Trees.Base.{names_of, left, entered}
use Rattle.pw_parse_grammar.proofs.Written.Knows.{text_of}
use Rattle.pw_parse_grammar.proofs.Trees.Spreads.{spreads-parameters}
use Rattle.pw_parse_grammar.proofs.Sound.Base.{Post, bind, Reads, nothing, both, sign, eaten}
use Rattle.pw_parse_grammar.proofs.Sound.Lists.{IsTurn, repeat-sound}
use Rattle.pw_parse_grammar.proofs.Sound.Parts.{IsSpecifiers, IsDeclarator, Sound}
use Rattle.pw_parse_grammar.proofs.Sound.Primaries.{some_specifiers-sound}

-- ---- scopes

-- a declared name is visible from then on
pub declared_name : (is_typedef : Bool) (w : Option Word) (env : Env) (i : Input) → i.names ≡ names_of env → Post (λ _ j. Reads i j (scopes.declare_name is_typedef w env) (λ z. z)) (rules.declare_name (text_of w) is_typedef i)
declared_name is_typedef None env i names = nothing i env names
declared_name is_typedef (Some w) env i names = record { text = refl; next = omega arith; names = ap (λ v. v ++ (w.text, is_typedef) ∷ []) names; plain = λ z. refl }

-- the names before a list of parameters, and those that it declares
pub around_parameters : (env : Env) (ps : Parameters) (a b : List Binding) → a ≡ names_of env → b ≡ names_of (after_parameters env ps) → (take (length a) b ≡ names_of env) × (drop (length a) b ≡ names_of (after_parameters [] ps))
around_parameters env ps a b e f =
    let all : b ≡ names_of (after_parameters [] ps ++ env) = f ∙ ap names_of (spreads-parameters [] env ps) in (
      ap (λ v. take (length v) b) e ∙ ap (λ v. take (length (names_of env)) v) all ∙ left (after_parameters [] ps) env,
      ap (λ v. drop (length v) b) e ∙ ap (λ v. drop (length (names_of env)) v) all ∙ entered (after_parameters [] ps) env,
    )

-- with other names visible behind
pub scoped : {i j : Input} {env other : Env} {p : List Symbol → List Symbol} (names : List Binding) → Reads i j env p → names ≡ names_of other → Reads i (record j { names = names }) other p
scoped names r h = record { text = r.text; next = r.next; names = h; plain = r.plain }

-- ---- 6.5.4.3

-- `, ...` behind parameters
abbrev pub dotted : Bool → List Symbol → List Symbol
dotted true z = Sign m.Comma ∷ Sign m.Ellipsis ∷ z
dotted false z = z

-- parameters from i on, one or more, behind the comma before them, and whether `, ...` stands behind
pub record IsParameters (env : Env) (i : Input) (p : Parameters × Bool) (j : Input) : Type 0 where
  pub reads : Reads i j (after_parameters env p.0) (λ z. spell_parameters true p.0 (dotted p.1 z))
  pub holds : WellFormedParameters env p.0
  pub has : HasParameter p.0
  pub numbered : NumberedParameters true i.next p.0
  -- with a comma before them
  pub commas : (k : Input) (inner : Env) → Reads k i inner (λ z. Sign m.Comma ∷ z) → Reads k j (after_parameters env p.0) (λ z. spell_parameters false p.0 (dotted p.1 z)) × NumberedParameters false k.next p.0

-- a parameter that ends the list, or goes before a comma and the rest
pub record IsParameter (env : Env) (i : Input) (f : Parameters × Bool → Parameters × Bool) (j : Input) : Type 0 where
  pub inner : Env
  pub names : j.names ≡ names_of inner
  pub last : (variadic : Bool) (k : Input) → Reads j k inner (dotted variadic) → IsParameters env i (f (NoParameter, variadic)) k
  pub more : (k : Input) → Reads j k inner (λ z. Sign m.Comma ∷ z) → (l : Parameters × Bool) (end : Input) → IsParameters inner k l end → IsParameters env i (f l) end

parameter-listed : (env : Env) (i x y j : Input) (ss : Specifiers) (d : Declared) → IsSpecifiers true env i ss x → HasSpecifier ss → IsDeclarator Either (has_type ss) (after_specifiers env ss) x d y → Reads y j (after_parameter env ss d.tree) (λ z. z)
    → IsParameter env i (λ more. (Parameter ss d.tree more.0, more.1)) j
unfolding spell_expr WellFormed Numbered
parameter-listed env i x y j ss d q has r named =
    let numbers : (n : ℕ) → i.next ≡ n → NumberedSpecifiers n ss × NumberedDeclarator (past_specifiers n ss) d.tree = λ n f. (subst (λ v. NumberedSpecifiers v ss) f q.numbered, subst (λ v. NumberedDeclarator v d.tree) (omega (arith, q.reads.next, f)) r.numbered) in
    let past : (n : ℕ) → i.next ≡ n → j.next ≡ past_declarator (past_specifiers n ss) d.tree = λ n f. omega (arith, q.reads.next, r.reads.next, named.next, f) in
    let front : Reads i j (after_parameter env ss d.tree) (λ z. spell_specifiers ss (spell_declarator d.tree z)) = both q.reads (both r.reads named) in
    record {
      inner = after_parameter env ss d.tree;
      names = named.names;
      last = λ variadic k c. record {
        reads = both front c;
        holds = (has, q.holds, r.holds, tt);
        has = tt;
        numbered = ((numbers i.next refl).0, (numbers i.next refl).1, tt);
        commas = λ h inner f. (both f (both front c), ((numbers (h.next + 1) f.next).0, (numbers (h.next + 1) f.next).1, tt));
      };
      more = λ k c ps end s.
          let rest = s.commas j (after_parameter env ss d.tree) c in
          record {
            reads = both front rest.0;
            holds = (has, q.holds, r.holds, s.holds);
            has = tt;
            numbered = ((numbers i.next refl).0, (numbers i.next refl).1, subst (λ v. NumberedParameters false v ps.0) (past i.next refl) rest.1);
            commas = λ h inner f. (both f (both front rest.0), ((numbers (h.next + 1) f.next).0, (numbers (h.next + 1) f.next).1, subst (λ v. NumberedParameters false v ps.0) (past (h.next + 1) f.next) rest.1));
          };
    }

-- behind a parameter a comma, or the end of the list
abbrev IsEnd : Env → Input → Option (Parameters × Bool) → Input → Type 0
IsEnd inner j None k = Reads j k inner (λ z. Sign m.Comma ∷ z)
IsEnd inner j (Some p) k = (p.0 ≡ NoParameter) × Reads j k inner (dotted p.1)

end-sound : (inner : Env) (j : Input) → j.names ≡ names_of inner → Post (IsEnd inner j) (parameters_end j)
unfolding parameters_end past
end-sound inner j names = eaten (IsEnd inner j) j inner m.Comma ((λ dots. if dots then Some (NoParameter, true) else None) <$> eat m.Ellipsis) (pure (Some (NoParameter, false))) names
    (λ k comma. by k comma (sees m.Ellipsis k) refl)
    (λ _. (refl, nothing j inner names))
  where
    by : (k : Input) → Reads j k inner (λ z. Sign m.Comma ∷ z) → (b : Bool) → sees m.Ellipsis k ≡ b → IsEnd inner j (if b then Some (NoParameter, true) else None) (if b then step k else k)
    by k comma true h = (refl, both comma (sign k inner m.Ellipsis h comma.names))
    by k comma false h = comma

module _ (parts : Parts) (sound : Sound parts) where
  parameter-sound : (env : Env) (i : Input) → i.names ≡ names_of env → Post (IsParameter env i) (parameter parts i)
  unfolding parameter
  parameter-sound env i names =
      bind _ (some_specifiers parts true i) (λ ss. parts.declarator Either (has_type ss) >>= λ d. rules.declare_name d.name false >> pure (λ more. (Parameter ss d.tree more.0, more.1))) (some_specifiers-sound parts sound true env i names) (λ ss x q.
      bind _ (parts.declarator Either (has_type ss) x) (λ d. rules.declare_name d.name false >> pure (λ more. (Parameter ss d.tree more.0, more.1))) (sound.declarator Either (has_type ss) (after_specifiers env ss) x q.0.reads.names) (λ d y r.
      bind _ (rules.declare_name d.name false y) (λ _. pure (λ more. (Parameter ss d.tree more.0, more.1)))
      (subst (λ v. Post (λ _ j. Reads y j (after_parameter env ss d.tree) (λ z. z)) (rules.declare_name v false y)) (sym (ap (λ v. v.name) r.same)) (declared_name false (name_of d.tree) (after_declarator (after_specifiers env ss) d.tree) y r.reads.names))
      (λ _ j named. parameter-listed env i x y j ss d q.0 q.1 r named)))

  pub parameters-sound : (env : Env) (i : Input) → i.names ≡ names_of env → Post (IsParameters env i) (parameters parts i)
  unfolding parameters
  parameters-sound env i names = repeat-sound IsParameters (parameter parts >>= λ first. turn_with first <$> parameters_end) turn (turns i) env i names
    where
      by : (env : Env) (i j : Input) (f : Parameters × Bool → Parameters × Bool) → (q : IsParameter env i f j) → (o : Option (Parameters × Bool)) (k : Input) → IsEnd q.inner j o k → IsTurn IsParameters env i (turn_with f o) k
      by env i j f q None k c = (q.inner, c.names, q.more k c)
      by env i j f q (Some p) k e = subst (λ v. IsParameters env i (f (v, p.1)) k) (sym e.0) (q.last p.1 k e.1)

      turn : (env : Env) (i : Input) → i.names ≡ names_of env → Post (IsTurn IsParameters env i) ((parameter parts >>= λ first. turn_with first <$> parameters_end) i)
      turn env i names = bind _ (parameter parts i) (λ first. turn_with first <$> parameters_end) (parameter-sound env i names) (λ f j q.
          bind (IsTurn IsParameters env i) (parameters_end j) (λ o. pure (turn_with f o)) (end-sound q.inner j q.names) (by env i j f q))
