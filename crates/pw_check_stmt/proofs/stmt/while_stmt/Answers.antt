use Rattle.std.proofs.Common.{refl, ap, rules}
use Rattle.pw_check_walk.proofs.CallLaws.{step_ok, step_err}
use Rattle.pw_check_labels.proofs.Steps.{ends}
use Rattle.pw_check_rules.specs.Statements.{stmt_rule}
use Rattle.pw_types.specs.TypedTrees as T
use Rattle.pw_typed.specs.Views.{view_expr, view_stmt_form}
use Rattle.pw_check_choice.specs.Views.{view_body}
use Rattle.pw_check_stmt.proofs.stmt.while_stmt.Goals as goal

pub returns-in_err-condition : goal.returns-in_err-condition
unfolding stmt_rule
returns-in_err-condition g c = step_err _ c.condition_rule.ensures c.in_err-condition.was (search rules)

pub returns-in_err-body : goal.returns-in_err-body
unfolding stmt_rule
returns-in_err-body g c =
    step_ok _ c.condition_rule.ensures c.in_ok-condition.was (step_err _ c.in_loop.ensures c.in_err-body.was (search rules))

pub returns : goal.returns
unfolding stmt_rule view_stmt_form
returns g c =
    step_ok _ c.condition_rule.ensures c.in_ok-condition.was (step_ok _ c.in_loop.ensures c.in_ok-body.was (ends (ap (λ e. T.While c.args.token (view_expr e) (view_body c.in_ok-body.body)) c.into_inner.ensures) refl))
