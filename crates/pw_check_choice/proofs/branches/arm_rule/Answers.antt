use Rattle.std.proofs.Common.{refl, ap, rules}
use Rattle.pw_check_walk.proofs.CallLaws.{step_ok, step_err}
use Rattle.pw_check_labels.proofs.Steps.{ends}
use Rattle.pw_typed.specs.Views.{view_expr, view_stmt}
use Rattle.pw_check_choice.specs.Parts.{arm_rule, one_arm}
use Rattle.pw_check_choice.proofs.branches.arm_rule.Goals as goal

pub returns-in_err-condition : goal.returns-in_err-condition
unfolding arm_rule
returns-in_err-condition g c = step_err _ c.condition_rule.ensures c.in_err-condition.was (search rules)

pub returns-in_err-body : goal.returns-in_err-body
unfolding arm_rule
returns-in_err-body g c =
    step_ok _ c.condition_rule.ensures c.in_ok-condition.was (step_err _ c.stmt.ensures c.in_err-body.was (search rules))

pub returns : goal.returns
unfolding arm_rule
returns g c =
    step_ok _ c.condition_rule.ensures c.in_ok-condition.was (step_ok _ c.stmt.ensures c.in_ok-body.was (ends (ap (λ e. one_arm c.args.token (view_expr e) (view_stmt c.in_ok-body.body)) c.into_inner.ensures) refl))
