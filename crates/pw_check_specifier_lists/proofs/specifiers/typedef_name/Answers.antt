use Rattle.std.proofs.Common.{rules}
use Rattle.pw_check_walk.proofs.CallLaws.{step_ok, step_err}
use Rattle.pw_check_specifier_lists.specs.Specifying.{typedef_name_rule}
use Rattle.pw_check_specifier_lists.proofs.specifiers.typedef_name.Goals as goal

pub returns-in_err-ty : goal.returns-in_err-ty
unfolding typedef_name_rule
returns-in_err-ty c = step_err _ c.typedef_rule.ensures c.in_err-ty.was (search rules)

pub returns : goal.returns
unfolding typedef_name_rule
returns c = step_ok _ c.typedef_rule.ensures c.in_ok-ty.was c.type_gathered.ensures
