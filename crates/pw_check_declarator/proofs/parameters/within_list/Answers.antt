use Rattle.std.proofs.Common.{rules}
use Rattle.pw_check_walk.proofs.CallLaws.{step_ok, step_err}
use Rattle.pw_check_declarator.specs.Declaring.{within_list}
use Rattle.pw_check_declarator.proofs.parameters.within_list.Goals as goal

pub returns-in_err-found : goal.returns-in_err-found
unfolding within_list
returns-in_err-found g c = step_err _ c.parameters.ensures c.in_err-found.was (search rules)

pub returns : goal.returns
unfolding within_list
returns g c = step_ok _ c.parameters.ensures c.in_ok-found.was c.bindings_rule.ensures
