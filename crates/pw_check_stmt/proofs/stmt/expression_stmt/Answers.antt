use Rattle.std.proofs.Common.{refl, rules}
use Rattle.pw_check_walk.proofs.CallLaws.{step_ok, step_err}
use Rattle.pw_check_labels.proofs.Steps.{ends, same}
use Rattle.pw_check_rules.specs.Statements.{stmt_rule}
use Rattle.pw_typed.specs.Views.{view_stmt_form}
use Rattle.pw_check_labels.proofs.LabelLaws.{whole_then}
use Rattle.pw_typed.specs.Views.{view_expr}
use Rattle.pw_types.specs.TypedTrees as T
use Rattle.pw_check_stmt.proofs.stmt.expression_stmt.Goals as goal

pub returns-in_err-value : goal.returns-in_err-value
unfolding stmt_rule
returns-in_err-value g c = same (whole_then _ _ _) (step_err _ c.whole.ensures c.in_err-value.was (search rules))

pub returns : goal.returns
unfolding stmt_rule view_stmt_form
returns g c =
    same (whole_then _ _ _)
    (step_ok _ c.whole.ensures c.in_ok-value.was (ends (λ j. T.Evaluate (c.first_token.ensures j) (view_expr (c.into_inner.ensures j))) refl))
