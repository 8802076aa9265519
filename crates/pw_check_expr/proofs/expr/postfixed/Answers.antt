use Rattle.std.proofs.Common.{rules}
use Rattle.pw_check_walk.proofs.CallLaws.{step_ok, step_err}
use Rattle.pw_check_rules.specs.Phrases.{expr_rule}
use Rattle.pw_check_expr.proofs.expr.postfixed.Goals as goal

pub returns-in_err-first : goal.returns-in_err-first
unfolding expr_rule
returns-in_err-first g c = step_err _ c.expr.ensures c.in_err-first.was (search rules)

pub returns : goal.returns
unfolding expr_rule
returns g c = step_ok _ c.expr.ensures c.in_ok-first.was c.postfixes.ensures
