use Rattle.std.proofs.Common.{rules}
use Rattle.pw_check_walk.proofs.CallLaws.{step_ok, step_err}
use Rattle.pw_check_primary.proofs.names.type_size.Goals as goal

pub returns-in_err-named : goal.returns-in_err-named
returns-in_err-named g c = step_err _ c.type_name.ensures c.in_err-named.was (search rules)

pub returns : goal.returns
returns g c = step_ok _ c.type_name.ensures c.in_ok-named.was c.type_size_rule.ensures
