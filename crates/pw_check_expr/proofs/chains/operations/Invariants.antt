use Rattle.std.proofs.Common.{◌≡◌, drop}
use Rattle.pw_check_walk.specs.Walks.{outcome}
use Rattle.pw_check_state.specs.StateViews.{view_state}
use Rattle.pw_check_state.specs.Views.{view_operand}
use Rattle.pw_check_expr.proofs.Splits.{along_operations}
use Rattle.pw_check_expr.proofs.chains.operations.Given as goal

-- what is left of the chain comes to what all of it does
abbrev pub invariant-loop-next : goal.invariant-loop-next
invariant-loop-next g l =
    outcome (along_operations l.rest (view_operand l.initial.left) (view_state l.initial.state))
    ≡ outcome (along_operations (drop l.next-index l.rest) (view_operand l.left) (view_state l.state))
