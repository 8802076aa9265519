use Rattle.std.proofs.Common.{rules}
use Rattle.pw_check_walk.proofs.CallLaws.{step_ok, step_err}
use Rattle.pw_check_primary.proofs.unaries.step_before.Goals as goal

pub returns-in_err-a : goal.returns-in_err-a
returns-in_err-a g c = step_err _ c.expr.ensures c.in_err-a.was (search rules)

pub returns : goal.returns
returns g c = step_ok _ c.expr.ensures c.in_ok-a.was c.step_rule.ensures
