use Rattle.std.proofs.Common.{refl, ap, rules}
use Rattle.pw_check_walk.proofs.CallLaws.{step_ok, step_err}
use Rattle.pw_check_labels.proofs.Steps.{ends}
use Rattle.pw_check_rules.specs.Statements.{stmt_rule}
use Rattle.pw_typed.specs.Views.{view_stmt_form}
use Rattle.pw_check_labels.specs.Views.{view_numbers}
use Rattle.pw_check_choice.specs.Views.{view_body}
use Rattle.pw_types.specs.TypedTrees as T
use Rattle.pw_check_stmt.proofs.stmt.labeled_stmt.Goals as goal

pub returns-in_err-numbers : goal.returns-in_err-numbers
unfolding stmt_rule
returns-in_err-numbers g c = step_err _ c.labels_rule.ensures c.in_err-numbers.was (search rules)

pub returns-in_err-body : goal.returns-in_err-body
unfolding stmt_rule
returns-in_err-body g c =
    step_ok _ c.labels_rule.ensures c.in_ok-numbers.was (step_err _ c.boxed_stmt.ensures c.in_err-body.was (search rules))

pub returns : goal.returns
unfolding stmt_rule view_stmt_form
returns g c =
    step_ok _ c.labels_rule.ensures c.in_ok-numbers.was
    (step_ok _ c.boxed_stmt.ensures c.in_ok-body.was
    (ends (ap (λ t. T.Label t (view_numbers c.in_ok-numbers.numbers) (view_body c.in_ok-body.body)) c.first_of_labels.ensures) refl))
