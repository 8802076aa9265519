use Rattle.std.proofs.Common.{rules, ap}
use Rattle.pw_check_walk.proofs.CallLaws.{same_call, step_ok, step_err}
use Rattle.pw_check_walk.specs.Walks.{outcome}
use Rattle.pw_check_primary.proofs.Forms.{conditional_form}
use Rattle.pw_check_expr.proofs.expr.conditional.Goals as goal

pub returns-in_err-u : goal.returns-in_err-u
returns-in_err-u g c =
    same_call _ _ _ _ _ (ap outcome (conditional_form _ _ _ _ _))
    (step_err _ c.whole_rule.ensures c.in_err-u.was (search rules))

pub returns-in_err-v : goal.returns-in_err-v
returns-in_err-v g c =
    same_call _ _ _ _ _ (ap outcome (conditional_form _ _ _ _ _))
    (step_ok _ c.whole_rule.ensures c.in_ok-u.was (step_err _ c.whole_rule-2.ensures c.in_err-v.was (search rules)))

pub returns-in_err-w : goal.returns-in_err-w
returns-in_err-w g c =
    same_call _ _ _ _ _ (ap outcome (conditional_form _ _ _ _ _))
    (step_ok _ c.whole_rule.ensures c.in_ok-u.was
    (step_ok _ c.whole_rule-2.ensures c.in_ok-v.was (step_err _ c.whole_rule-3.ensures c.in_err-w.was (search rules))))

pub returns : goal.returns
returns g c =
    same_call _ _ _ _ _ (ap outcome (conditional_form _ _ _ _ _))
    (step_ok _ c.whole_rule.ensures c.in_ok-u.was
    (step_ok _ c.whole_rule-2.ensures c.in_ok-v.was (step_ok _ c.whole_rule-3.ensures c.in_ok-w.was c.conditional_rule.ensures)))
