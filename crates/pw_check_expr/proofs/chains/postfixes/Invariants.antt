use Rattle.std.proofs.Common.{◌≡◌, drop}
use Rattle.pw_check_walk.specs.Walks.{outcome}
use Rattle.pw_check_state.specs.StateViews.{view_state}
use Rattle.pw_check_state.specs.Views.{view_operand}
use Rattle.pw_check_expr.proofs.Splits.{along_postfixes}
use Rattle.pw_check_expr.proofs.chains.postfixes.Given as goal

-- what is left of them comes to what all of them do
abbrev pub invariant-loop-next : goal.invariant-loop-next
invariant-loop-next g l =
    outcome (along_postfixes l.rest (view_operand l.initial.left) (view_state l.initial.state))
    ≡ outcome (along_postfixes (drop l.next-index l.rest) (view_operand l.left) (view_state l.state))
