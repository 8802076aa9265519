use Rattle.std.proofs.Common.{rules}
use Rattle.pw_check_walk.proofs.CallLaws.{step_ok, step_err}
use Rattle.pw_check_specifier_lists.specs.Specifying.{member_declaration}
use Rattle.pw_check_specifier_lists.proofs.records.member_declaration.Goals as goal

pub returns-in_err-specified : goal.returns-in_err-specified
unfolding member_declaration
returns-in_err-specified g c = step_err _ (rw (c.first_of_list.ensures, c.as_slice-specifiers.ensures.value) at c.specifiers.ensures) c.in_err-specified.was (search rules)

pub returns : goal.returns
unfolding member_declaration
returns g c = step_ok _ (rw (c.first_of_list.ensures, c.as_slice-specifiers.ensures.value) at c.specifiers.ensures) c.in_ok-specified.was (rw c.as_slice-declarators.ensures.value at c.member_declarators.ensures)
