use Rattle.std.proofs.Common.{rules}
use Rattle.pw_check_walk.proofs.CallLaws.{step_ok, step_err}
use Rattle.pw_check_expr.proofs.chains.operation.Goals as goal

pub returns-in_err-a : goal.returns-in_err-a
returns-in_err-a g c = step_err _ c.value_rule.ensures c.in_err-a.was (search rules)

pub returns-in_err-b : goal.returns-in_err-b
returns-in_err-b g c = step_ok _ c.value_rule.ensures c.in_ok-a.was (step_err _ c.whole_rule.ensures c.in_err-b.was (search rules))

pub returns : goal.returns
returns g c = step_ok _ c.value_rule.ensures c.in_ok-a.was (step_ok _ c.whole_rule.ensures c.in_ok-b.was c.operation_rule.ensures)
