use Rattle.std.proofs.Common.{◌≡◌, drop, map}
use Rattle.pw_tree.specs.Views.{view_arguments}
use Rattle.pw_typed.specs.Views.{view_expr}
use Rattle.pw_check_walk.specs.Walks.{outcome}
use Rattle.pw_check_state.specs.StateViews.{view_state}
use Rattle.pw_check_rules.specs.Phrases.{arguments_rule}
use Rattle.pw_check_expr.proofs.Splits.{along_arguments}
use Rattle.pw_check_expr.proofs.chains.arguments.Given as goal

-- what is left of the arguments, behind the values so far, comes to what all of them do
abbrev pub invariant-loop-e : goal.invariant-loop-e
invariant-loop-e g l =
    outcome (arguments_rule (view_arguments l.exprs) (view_state l.initial.state))
    ≡ outcome (along_arguments (drop l.e-index l.exprs) (map view_expr l.values.items) (view_state l.state))
