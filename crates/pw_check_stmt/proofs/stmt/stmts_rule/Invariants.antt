use Rattle.std.proofs.Common.{◌≡◌, drop, map}
use Rattle.pw_check_state.specs.StateViews.{view_state}
use Rattle.pw_check_labels.proofs.Gathering.{behind_all}
use Rattle.pw_check_rules.specs.Statements.{stmts_rule}
use Rattle.pw_tree.specs.Views.{view_stmts}
use Rattle.pw_typed.specs.Views as typed
use Rattle.pw_types.specs.TypedTrees.{OneStatement}
use Rattle.pw_check_walk.specs.Walks.{outcome}
use Rattle.pw_check_stmt.proofs.stmt.stmts_rule.Given as goal

-- what is left comes to what the whole does
abbrev pub invariant-loop-next : goal.invariant-loop-next
invariant-loop-next g l =
    outcome (stmts_rule (view_stmts l.statements) (view_state l.fn.state))
    ≡ outcome (behind_all OneStatement (map typed.view_stmt l.items.items) (stmts_rule (view_stmts (drop l.next-index l.statements)) (view_state l.state)))
