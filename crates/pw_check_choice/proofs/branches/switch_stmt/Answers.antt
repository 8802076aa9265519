use Rattle.std.proofs.Common.{refl, rules}
use Rattle.pw_check_walk.proofs.CallLaws.{step_ok, step_err}
use Rattle.pw_check_labels.proofs.Steps.{ends}
use Rattle.pw_check_rules.specs.Statements.{stmt_rule}
use Rattle.pw_typed.specs.Views.{view_stmt_form}
use Rattle.pw_typed.specs.Views.{view_expr}
use Rattle.pw_check_choice.specs.Views.{view_body}
use Rattle.pw_types.specs.TypedTrees as T
use Rattle.pw_check_choice.proofs.branches.switch_stmt.Goals as goal

pub returns-in_err-value : goal.returns-in_err-value
unfolding stmt_rule
returns-in_err-value g c = step_err _ c.switch_rule.ensures c.in_err-value.was (search rules)

pub returns-in_err-switched : goal.returns-in_err-switched
unfolding stmt_rule
returns-in_err-switched g c =
    step_ok _ c.switch_rule.ensures c.in_ok-value.was (step_err _ (rw c.deref.ensures at c.in_switch.ensures) c.in_err-switched.was (search rules))

pub returns : goal.returns
unfolding stmt_rule view_stmt_form
returns g c =
    step_ok _ c.switch_rule.ensures c.in_ok-value.was
    (step_ok _ (rw c.deref.ensures at c.in_switch.ensures) c.in_ok-switched.was
    (ends
    (λ j. T.Switch c.args.token (view_expr (c.into_inner.ensures j)) (c.into_cases.ensures j) c.in_ok-switched.switched.switch.default (view_body c.in_ok-switched.switched.body))
    refl))
