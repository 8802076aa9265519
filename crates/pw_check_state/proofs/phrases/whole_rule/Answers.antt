use Rattle.std.proofs.Common.{rules}
use Rattle.pw_check_walk.proofs.CallLaws.{step_ok, step_err}
use Rattle.pw_check_rules.specs.Statements.{whole_rule}
use Rattle.pw_check_state.proofs.phrases.whole_rule.Goals as goal

pub returns-in_err-operand : goal.returns-in_err-operand
unfolding whole_rule
returns-in_err-operand g c = step_err _ c.expr.ensures c.in_err-operand.was (search rules)

pub returns : goal.returns
unfolding whole_rule
returns g c = step_ok _ c.expr.ensures c.in_ok-operand.was c.value_rule.ensures
