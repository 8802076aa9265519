use Rattle.std.proofs.Common.{◌≡◌, [], drop}
use Rattle.pw_check_walk.specs.Walks.{outcome}
use Rattle.pw_check_state.specs.StateViews.{view_state}
use Rattle.pw_check_rules.specs.Phrases.{parameters_rule}
use Rattle.pw_tree.specs.Views.{view_parameters}
use Rattle.pw_check_declarator.specs.Views.{view_parameter_list}
use Rattle.pw_check_declarator.proofs.parameters.parameters.Given as goal

-- what is left of the list comes to what all of it does
abbrev pub invariant-loop-index : goal.invariant-loop-index
invariant-loop-index g l =
    outcome (parameters_rule (view_parameters l.list) [] (view_state l.initial.state))
    ≡ outcome (parameters_rule (view_parameters (drop l.index l.list)) (view_parameter_list l.found) (view_state l.state))
