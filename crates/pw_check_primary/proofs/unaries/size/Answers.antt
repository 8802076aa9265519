use Rattle.std.proofs.Common.{rules}
use Rattle.pw_check_walk.proofs.CallLaws.{step_ok, step_err}
use Rattle.pw_check_rules.specs.Phrases.{expr_rule}
use Rattle.pw_check_primary.proofs.unaries.size.Goals as goal

pub returns-in_err-a : goal.returns-in_err-a
unfolding expr_rule
returns-in_err-a g c = step_err _ c.uncounted_operand.ensures c.in_err-a.was (search rules)

pub returns : goal.returns
unfolding expr_rule
returns g c = step_ok _ c.uncounted_operand.ensures c.in_ok-a.was c.size_rule.ensures
