use Rattle.std.proofs.Common.{rules}
use Rattle.pw_check_walk.proofs.CallLaws.{step_ok, step_err}
use Rattle.pw_check_specifier_lists.specs.Specifying.{record_list_rule}
use Rattle.pw_check_specifier_lists.proofs.specifiers.record.Goals as goal

pub returns-in_err-ty : goal.returns-in_err-ty
unfolding record_list_rule
returns-in_err-ty g c = step_err _ (rw c.record_kind.ensures at c.record_list.ensures) c.in_err-ty.was (search rules)

pub returns : goal.returns
unfolding record_list_rule
returns g c = step_ok _ (rw c.record_kind.ensures at c.record_list.ensures) c.in_ok-ty.was c.type_gathered.ensures
