-- Faults in lists of parameters (6.5.4.3).
use Rattle.std.proofs.Common.{◌≡◌, ℕ, ◌<◌, Bool, true, false, if◌then◌else◌, List, ◌∷◌, length, Option, Some, None, arith, refl, sym, ap, subst}
use Rattle.pw_tree.specs.Scopes.{Env, has_type, name_of, after_specifiers, after_declarator, after_parameter}
use Rattle.pw_tree.specs.Spelling.{spell_expr, spell_specifiers, spell_declarator, spell_parameters}
use Rattle.pw_tree.specs.Symbols.{Symbol, Sign}
use Rattle.pw_tree.specs.Trees.{Parameters, NoParameter, Parameter}
use Rattle.pw_tree.specs.WellFormed.{HasParameter, WellFormed, WellFormedParameters}
use Rattle.pw_token.specs.declared.symbol.Mark.TheVariants as m
use Rattle.pw_parse_grammar.specs.declared.place.Place.TheVariants.{Either}
use Rattle.pw_parse_grammar.specs.Input.{Input, step, sees, past, pure, ◌<$>◌, eat}
use Rattle.pw_parse_grammar.specs.Parts.{Parts}
use Rattle.pw_parse_grammar.specs.Declarators.{declare_name, parameters_end, parameter, parameters}
use Rattle.pw_parse_grammar.specs.Expressions.{some_specifiers}
use Rattle.pw_parse_grammar.proofs.Trees.Base.{names_of}
use Rattle.pw_parse_grammar.proofs.Sound.Base.{Post, Reads, both}
use Rattle.pw_parse_grammar.proofs.Sound.Parts.{Sound}
use Rattle.pw_parse_grammar.proofs.Sound.Primaries.{some_specifiers-sound}
use Rattle.pw_parse_grammar.proofs.Sound.Parameters.{declared_name}
use Rattle.pw_parse_grammar.proofs.Viable.Base.{Does, Fails, bind-fails, eaten-fails, Form, Viable, embed, as_part, counted}
use Rattle.pw_parse_grammar.proofs.Viable.Lists.{Listed, AfterEnd, more_listed, items-fail}
use Rattle.pw_parse_grammar.proofs.Viable.Parts.{some_declarator-holds, ViableParts}
use Rattle.pw_parse_grammar.proofs.Viable.Primaries.{nothing_declared, some_specifiers-fails}

-- parameters, one or more
abbrev pub parameter_lists : Form Parameters
parameter_lists = record { holds = λ env ps. WellFormedParameters env ps × HasParameter ps; put = spell_parameters true }

parameters-comma : (ps : Parameters) → HasParameter ps → (z : List Symbol) → spell_parameters false ps z ≡ Sign m.Comma ∷ spell_parameters true ps z
unfolding spell_expr
parameters-comma NoParameter h z = absurd h
parameters-comma (Parameter ss d ps) h z = refl

-- A name is declared without a fault.
pub declare_name-fails : (V : Input → Type 0) (name : Option (List ℕ)) (is_typedef : Bool) (i : Input) → Fails V (declare_name name is_typedef i)
declare_name-fails V None is_typedef i = tt
declare_name-fails V (Some x) is_typedef i = tt

module _ (parts : Parts) (sound : Sound parts) (d : ℕ) (viable : ViableParts d parts) where
  parameter-fails : (env : Env) (i : Input) → i.names ≡ names_of env → length i.rest < d → Does (λ f j. Listed (Viable parameter_lists) env i j) (Viable parameter_lists env i) (parameter parts i)
  unfolding parameter spell_expr WellFormed
  parameter-fails env i names below =
      bind-fails _ _ (some_specifiers parts true i) _ (some_specifiers-sound parts sound true env i names) (some_specifiers-fails parts sound d viable true env i names below)
      (λ e v. as_part v (λ ss h. record { thing = Parameter ss nothing_declared NoParameter; holds = ((h.2, h.0, some_declarator-holds Either (has_type ss) (after_specifiers env ss), tt), tt); spells = λ z. (z, refl) }))
      (λ ss x q. bind-fails _ _ (parts.declarator Either (has_type ss) x) _ (sound.declarator Either (has_type ss) (after_specifiers env ss) x q.0.reads.names)
      (viable.declarator Either (has_type ss) (after_specifiers env ss) x q.0.reads.names (omega (arith, below, counted q.0.reads)))
      (λ e v. embed q.0.reads v (λ t h. record { thing = Parameter ss t NoParameter; holds = ((q.1, q.0.holds, h, tt), tt); spells = λ z. (z, refl) }))
      (λ t y r. bind-fails _ _ (declare_name t.name false y) _
      (subst (λ v. Post (λ _ j. Reads y j (after_parameter env ss t.tree) (λ z. z)) (declare_name v false y)) (sym (ap (λ v. v.name) r.same)) (declared_name false (name_of t.tree) (after_declarator (after_specifiers env ss) t.tree) y r.reads.names))
      (declare_name-fails (Viable parameter_lists env i) t.name false y) (λ e v. v)
      (λ _ j named. more_listed (both q.0.reads (both r.reads named)) (λ ps s. record {
        thing = Parameter ss t.tree ps;
        holds = ((q.1, q.0.holds, r.holds, s.0), tt);
        spells = λ z. (z, ap (λ v. spell_specifiers ss (spell_declarator t.tree v)) (parameters-comma ps s.1 z));
      }))))

  end-fails : (env : Env) (i j : Input) → Listed (Viable parameter_lists) env i j → Does (AfterEnd (Viable parameter_lists) env i) (Viable parameter_lists env i) (parameters_end j)
  unfolding parameters_end past
  end-fails env i j q = eaten-fails _ _ j q.inner m.Comma ((λ dots. if dots then Some (NoParameter, true) else None) <$> eat m.Ellipsis) (pure (Some (NoParameter, false))) q.names
      (λ k comma. by k comma (sees m.Ellipsis k))
      (λ _. tt)
    where
      by : (k : Input) → Reads j k q.inner (λ z. Sign m.Comma ∷ z) → (b : Bool) → AfterEnd {L = Parameters × Bool} (Viable parameter_lists) env i (if b then Some (NoParameter, true) else None) (if b then step k else k)
      by k comma true = tt
      by k comma false = record { inner = q.inner; names = comma.names; shorter = omega (arith, counted comma, q.no_longer); rest = q.more k comma }

  pub parameters-fails : (env : Env) (i : Input) → i.names ≡ names_of env → length i.rest < d → Fails (Viable parameter_lists env i) (parameters parts i)
  unfolding parameters
  parameters-fails env i names below = items-fail (Viable parameter_lists) (λ env i f j. Listed (Viable parameter_lists) env i j) d (parameter parts) parameters_end parameter-fails (λ env i f j q. end-fails env i j q) env i names below
