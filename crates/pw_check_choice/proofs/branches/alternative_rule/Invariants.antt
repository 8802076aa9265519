use Rattle.std.proofs.Common.{◌≡◌, drop}
use Rattle.pw_check_state.specs.StateViews.{view_state}
use Rattle.pw_check_choice.specs.Parts.{alternative_after}
use Rattle.pw_check_choice.specs.Views.{view_arm_list}
use Rattle.pw_tree.specs.Views.{view_else_ifs, view_otherwise}
use Rattle.pw_check_walk.specs.Walks.{outcome}
use Rattle.pw_check_choice.proofs.branches.alternative_rule.Given as goal

-- what is left comes to what the whole does
abbrev pub invariant-loop-next : goal.invariant-loop-next
invariant-loop-next g l =
    outcome (alternative_after (view_arm_list l.fn.before.items) (view_else_ifs l.else_ifs (view_otherwise l.otherwise)) (view_state l.fn.state))
    ≡ outcome (alternative_after (view_arm_list l.arms.items) (view_else_ifs (drop l.next-index l.else_ifs) (view_otherwise l.otherwise)) (view_state l.state))
