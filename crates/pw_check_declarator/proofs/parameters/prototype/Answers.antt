use Rattle.std.proofs.Common.{rules}
use Rattle.pw_check_walk.proofs.CallLaws.{step_ok, step_err}
use Rattle.pw_check_declarator.specs.Declaring.{prototype_rule}
use Rattle.pw_check_declarator.proofs.parameters.prototype.Goals as goal

pub returns-in_err-bindings : goal.returns-in_err-bindings
unfolding prototype_rule
returns-in_err-bindings g c = step_err _ c.listed.ensures c.in_err-bindings.was (search rules)

pub returns : goal.returns
unfolding prototype_rule
returns g c = step_ok _ c.listed.ensures c.in_ok-bindings.was c.function_step.ensures
