use Rattle.std.proofs.Common.{refl, rules}
use Rattle.pw_check_walk.proofs.CallLaws.{step_ok, step_err}
use Rattle.pw_check_labels.proofs.Steps.{from_within, ends}
use Rattle.pw_check_functions.specs.Bodies.{end_body}
use Rattle.pw_check_functions.proofs.functions.end_body.Goals as goal

pub returns-in_err-measured_rule : goal.returns-in_err-measured_rule
unfolding end_body
returns-in_err-measured_rule c =
    from_within _ _ refl c.leave_scope.ensures (step_err _ (rw c.get.ensures at c.measured_rule.ensures.follows) c.in_err-measured_rule.was (search rules))

pub returns : goal.returns
unfolding end_body
returns c =
    from_within _ _ refl c.leave_scope.ensures
    (step_ok _ (rw c.get.ensures at c.measured_rule.ensures.follows) c.in_ok-measured_rule.was (ends refl (rw c.into_inner.ensures at c.in_ok-add_function.ensures)))
