use Rattle.std.proofs.Common.{rules}
use Rattle.pw_check_walk.proofs.CallLaws.{step_ok, step_err}
use Rattle.pw_check_declarator.specs.Declaring.{array_length_rule}
use Rattle.pw_check_declarator.proofs.declarators.array_length.Goals as goal

pub returns-in_err-whole : goal.returns-in_err-whole
unfolding array_length_rule
returns-in_err-whole g c = step_err _ c.whole_rule.ensures c.in_err-whole.was (search rules)

pub returns : goal.returns
unfolding array_length_rule
returns g c = step_ok _ c.whole_rule.ensures c.in_ok-whole.was (rw c.first_token.ensures at c.length_rule.ensures)
