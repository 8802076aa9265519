use Rattle.std.proofs.Common.{ap, sym, ◌∙◌}
use Rattle.pw_typed.specs.Views.{view_stmt}
use Rattle.pw_cmean.specs.Acts.{give}
use Rattle.pw_interp_todo.specs.Flows.{view_flow}
use Rattle.pw_interp_todo.specs.Going.{done_act}
use Rattle.pw_interp_flows.proofs.Following.{switch_is}
use Rattle.pw_interp_flows.proofs.behind.remainder.Goals as goal

pub returns-in-Member : goal.returns-in-Member
returns-in-Member c e n s =
    ap (λ d. done_act d (view_stmt c.args.what.of.now) e n (view_flow c.args.flow) s) c.in-Member.is ∙ c.members.ensures e n s

pub returns-in-Arm : goal.returns-in-Arm
returns-in-Arm c e n s =
    ap (λ d. done_act d (view_stmt c.args.what.of.now) e n (view_flow c.args.flow) s) c.in-Arm.is ∙ c.later_arms.ensures e n s

pub returns-in-Taking : goal.returns-in-Taking
returns-in-Taking c e n s =
    ap (λ d. done_act d (view_stmt c.args.what.of.now) e n (view_flow c.args.flow) s) c.in-Taking.is ∙ c.taken.ensures e n s

pub returns-in-Body : goal.returns-in-Body
returns-in-Body c e n s =
    ap (λ d. done_act d (view_stmt c.args.what.of.now) e n (view_flow c.args.flow) s) c.in-Body.is ∙ c.behind_body.ensures e n s

pub returns-in-Switch : goal.returns-in-Switch
returns-in-Switch c e n s =
    ap (λ d. done_act d (view_stmt c.args.what.of.now) e n (view_flow c.args.flow) s) c.in-Switch.is ∙ ap (λ act. act s) (switch_is (view_flow c.args.flow)) ∙ ap (λ f. give f s) (sym c.behind_switch.ensures)
