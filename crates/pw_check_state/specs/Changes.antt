-- Changes of the state that are parts of rules.
use Rattle.std.specs.Prelude.{ℕ, ◌+◌, ◌-◌, ◌==◌, List, [], ◌∷◌, ◌++◌, length, map, filter, Some}
use Rattle.pw_types.specs.TypeTrees.{QType}
use Rattle.pw_types.specs.TypedTrees.{CaseValue, LocalValue, PlacedItem}
use Rattle.pw_check_rules.specs.States.{State, no_body, with_body, with_scopes, one_deeper}
use Rattle.pw_check_rules.specs.Linkage.{change_linked}
use Rattle.pw_check_rules.specs.Statements.{with_switch}
use Rattle.pw_check_rules.specs.Functions.{declared_again}
use Rattle.pw_check_rules.specs.Derivations.{Bindings, ParameterValue}
use Rattle.pw_check_rules.specs.declared.names.Tag.{Tag}
use Rattle.pw_check_names.specs.Scoping.{NamesInScope}

-- ---- names with linkage

abbrev pub with_type : ℕ → QType → State → State
with_type place ty = change_linked place (λ l. record l { ty = ty })

abbrev pub with_items : ℕ → QType → List PlacedItem → State → State
with_items place ty items = change_linked place (λ l. record l { ty = ty; items = items })

-- ---- the function that is read

-- a body, in the scope of its parameters
abbrev pub entered_body : QType → List LocalValue → Bindings → List (List ℕ) → State → State
entered_body result locals bindings names s =
    with_body (λ old. record no_body { result = result; locals = locals; names = names; labels = length names })
    (with_scopes (declared_again bindings) (one_deeper s))

abbrev pub with_label : State → State
with_label = with_body (λ b. record b { labels = b.labels + 1 })

abbrev pub with_case : CaseValue → State → State
with_case c = with_switch (λ w. record w { cases = w.cases ++ c ∷ [] })

abbrev pub with_default : ℕ → State → State
with_default label = with_switch (λ w. record w { default = Some label })

abbrev pub in_loop : State → State
in_loop = with_body (λ b. record b { loops = b.loops + 1 })

abbrev pub behind_loop : State → State
behind_loop = with_body (λ b. record b { loops = b.loops - 1 })

abbrev pub with_met : List ℕ → State → State
with_met name = with_body (λ b. record b { met = b.met ++ name ∷ [] })

-- what the scope that is read has, for a parameter list
abbrev pub bindings_in : List ParameterValue → State → Bindings
bindings_in parameters s =
    record {
      parameters = parameters;
      ordinary = map (λ e. (e.0, e.1.place)) (filter (λ e. e.1.depth == s.scopes.depth) s.scopes.ordinary);
      tags = map (λ e. (e.0, e.1.tag)) (filter (λ e. e.1.depth == s.scopes.depth) s.scopes.tags);
    }

-- names and tags with what they stand for, declared in the scope that is read
abbrev pub names_again : List (List ℕ × ℕ) → NamesInScope → NamesInScope
names_again names c =
    record c { ordinary = c.ordinary ++ map (λ e. (e.0, record { place = e.1; depth = c.depth })) names }

abbrev pub tags_again : List (List ℕ × Tag) → NamesInScope → NamesInScope
tags_again tags c =
    record c { tags = c.tags ++ map (λ e. (e.0, record { tag = e.1; depth = c.depth })) tags }
