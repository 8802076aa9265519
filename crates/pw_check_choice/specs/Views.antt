-- The plain data that statements in boxes, and the parts of branches, show.
use Rattle.std.specs.Prelude.{List, map}
use Rattle.std.specs.declared.alloc.Global.{Global}
use Rattle.std.specs.declared.boxed.Box.{Box}
use Rattle.pw_types.specs.TypedTrees as tree
use Rattle.pw_typed.specs.declared.tree.Arm.{Arm}
use Rattle.pw_typed.specs.declared.tree.TStmt.{TStmt}
use Rattle.pw_typed.specs.Views.{view_expr, view_stmt, view_otherwise}
use Rattle.pw_check_state.specs.EntityViews.{view_switch}
use Rattle.pw_check_rules.specs.States as states
use Rattle.pw_check_rules.specs.Statements as rules
use Rattle.pw_check_labels.specs.Gathered.{gathered}
use Rattle.pw_check_choice.specs.Parts.{OneArm, with_arm}
use Rattle.pw_check_choice.specs.declared.branches.Behind.{Behind}
use Rattle.pw_check_choice.specs.declared.branches.Switched.{Switched}

abbrev pub view_body : Box TStmt Global → tree.Statement
view_body s = view_stmt s.value

abbrev pub view_switched : Switched → tree.Statement × states.SwitchState
view_switched w = (view_body w.body, view_switch w.switch)

abbrev pub view_arm : Arm → OneArm
view_arm a = record { token = a.token; condition = view_expr a.condition; body = view_stmt a.body }

abbrev pub view_arm_list : List Arm → List OneArm
view_arm_list arms = map view_arm arms

abbrev pub view_behind : Behind → rules.Behind
view_behind b = gathered with_arm (view_arm_list b.arms.items) (rules.arms_behind tree.NoArm (view_otherwise b.otherwise))
