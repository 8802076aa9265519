use Rattle.std.proofs.Common.{rules, ap}
use Rattle.pw_check_walk.proofs.CallLaws.{same_call, step_ok, step_err}
use Rattle.pw_check_walk.specs.Walks.{outcome}
use Rattle.pw_check_primary.proofs.Forms.{dereference_form}
use Rattle.pw_check_primary.proofs.unaries.dereference.Goals as goal

pub returns-in_err-value : goal.returns-in_err-value
returns-in_err-value g c =
    same_call _ _ _ _ _ (ap outcome (dereference_form _ _ _))
    (step_err _ c.whole_rule.ensures c.in_err-value.was (search rules))

pub returns : goal.returns
returns g c =
    same_call _ _ _ _ _ (ap outcome (dereference_form _ _ _))
    (step_ok _ c.whole_rule.ensures c.in_ok-value.was c.deref_rule.ensures)
