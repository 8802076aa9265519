use Rattle.std.proofs.Common.{rules}
use Rattle.pw_check_walk.proofs.CallLaws.{step_ok, step_err}
use Rattle.pw_check_expr.proofs.chains.call.Goals as goal

pub returns-in_err-callee : goal.returns-in_err-callee
returns-in_err-callee g c = step_err _ c.value_rule.ensures c.in_err-callee.was (search rules)

pub returns-in_err-values : goal.returns-in_err-values
returns-in_err-values g c = step_ok _ c.value_rule.ensures c.in_ok-callee.was (step_err _ c.arguments.ensures c.in_err-values.was (search rules))

pub returns : goal.returns
returns g c = step_ok _ c.value_rule.ensures c.in_ok-callee.was (step_ok _ c.arguments.ensures c.in_ok-values.was c.call_rule.ensures)
