use Rattle.std.proofs.Common.{rules, ap}
use Rattle.pw_check_walk.proofs.CallLaws.{same_call, step_ok, step_err}
use Rattle.pw_check_walk.specs.Walks.{outcome}
use Rattle.pw_check_primary.proofs.Forms.{assign_form}
use Rattle.pw_check_expr.proofs.expr.assignment.Goals as goal

pub returns-in_err-left : goal.returns-in_err-left
returns-in_err-left g c =
    same_call _ _ _ _ _ (ap outcome (assign_form _ _ _ _ _))
    (step_err _ c.expr.ensures c.in_err-left.was (search rules))

pub returns-in_err-right : goal.returns-in_err-right
returns-in_err-right g c =
    same_call _ _ _ _ _ (ap outcome (assign_form _ _ _ _ _))
    (step_ok _ c.expr.ensures c.in_ok-left.was (step_err _ c.whole_rule.ensures c.in_err-right.was (search rules)))

pub returns : goal.returns
returns g c =
    same_call _ _ _ _ _ (ap outcome (assign_form _ _ _ _ _))
    (step_ok _ c.expr.ensures c.in_ok-left.was (step_ok _ c.whole_rule.ensures c.in_ok-right.was c.assignment_rule.ensures))
