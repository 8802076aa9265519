use Rattle.std.proofs.Common.{rules}
use Rattle.pw_check_walk.proofs.CallLaws.{step_ok, step_err}
use Rattle.pw_check_primary.proofs.unaries.sign.Goals as goal

pub returns-in_err-value : goal.returns-in_err-value
returns-in_err-value g c = step_err _ c.whole_rule.ensures c.in_err-value.was (search rules)

pub returns : goal.returns
returns g c = step_ok _ c.whole_rule.ensures c.in_ok-value.was c.sign_rule.ensures
