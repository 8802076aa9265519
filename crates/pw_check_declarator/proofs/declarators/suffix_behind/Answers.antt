use Rattle.std.proofs.Common.{rules}
use Rattle.pw_check_walk.proofs.CallLaws.{step_ok, step_err}
use Rattle.pw_check_declarator.specs.Declaring.{suffix_behind}
use Rattle.pw_check_declarator.proofs.declarators.suffix_behind.Goals as goal

pub returns-in_err-step : goal.returns-in_err-step
unfolding suffix_behind
returns-in_err-step g c = step_err _ c.suffix.ensures c.in_err-step.was (search rules)

pub returns : goal.returns
unfolding suffix_behind
returns g c = step_ok _ c.suffix.ensures c.in_ok-step.was c.step_gathered.ensures
