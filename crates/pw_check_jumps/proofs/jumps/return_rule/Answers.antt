use Rattle.std.proofs.Common.{refl, ap, rules}
use Rattle.pw_check_state.specs.StateViews.{view_state}
use Rattle.pw_tree.specs.Views.{view_optional}
use Rattle.pw_typed.specs.Views.{view_stmt_form}
use Rattle.pw_check_walk.proofs.CallLaws.{step_ok, step_err}
use Rattle.pw_check_labels.proofs.Steps.{ends, same}
use Rattle.pw_check_rules.specs.Statements.{return_rule}
use Rattle.pw_check_jumps.specs.Returns.{returned_rule}
use Rattle.pw_check_jumps.proofs.jumps.return_rule.Goals as goal

pub returns-in_err-value-in-Some : goal.returns-in_err-value-in-Some
unfolding return_rule
returns-in_err-value-in-Some g c =
    same (ap (λ o. return_rule c.args.token (view_optional o) (view_state c.args.state.now)) c.in-Some.is)
    (step_err _ c.whole.ensures c.in_err-value-in-Some.was (search rules))

pub returns-in_ok-value-in-Some : goal.returns-in_ok-value-in-Some
unfolding return_rule returned_rule
returns-in_ok-value-in-Some g c =
    same (ap (λ o. return_rule c.args.token (view_optional o) (view_state c.args.state.now)) c.in-Some.is)
    (step_ok _ c.whole.ensures c.in_ok-value-in-Some.was c.returned.ensures)

pub returns-in-None : goal.returns-in-None
unfolding return_rule view_stmt_form
returns-in-None g c = same (ap (λ o. return_rule c.args.token (view_optional o) (view_state c.args.state.now)) c.in-None.is) (ends refl refl)
