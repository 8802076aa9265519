use Rattle.std.proofs.Common.{rules}
use Rattle.pw_check_walk.proofs.CallLaws.{step_ok, step_err}
use Rattle.pw_check_specifier_lists.specs.Specifying.{enumeration_list_rule}
use Rattle.pw_check_specifier_lists.proofs.specifiers.enumeration.Goals as goal

pub returns-in_err-enumeration_list : goal.returns-in_err-enumeration_list
unfolding enumeration_list_rule
returns-in_err-enumeration_list g c = step_err _ c.enumeration_list.ensures c.in_err-enumeration_list.was (search rules)

pub returns : goal.returns
unfolding enumeration_list_rule
returns g c = step_ok _ c.enumeration_list.ensures c.in_ok-enumeration_list.was (rw c.int_type.ensures at c.type_gathered.ensures)
