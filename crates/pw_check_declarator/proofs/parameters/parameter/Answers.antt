use Rattle.std.proofs.Common.{rules}
use Rattle.pw_check_walk.proofs.CallLaws.{step_ok, step_err}
use Rattle.pw_check_declarator.specs.Declaring.{one_parameter}
use Rattle.pw_check_declarator.proofs.Splits.{first_stopped}
use Rattle.pw_check_declarator.proofs.parameters.parameter.Goals as goal

pub returns-in_err-specified : goal.returns-in_err-specified
unfolding one_parameter
returns-in_err-specified g c =
    step_err _ (rw (c.first_of_declaration-first.ensures, c.as_slice-specifiers.ensures.value) at c.specifiers.ensures) c.in_err-specified.was (search rules)

pub returns-in_err-parameter_storage : goal.returns-in_err-parameter_storage
unfolding one_parameter
returns-in_err-parameter_storage g c =
    step_ok _ (rw (c.first_of_declaration-first.ensures, c.as_slice-specifiers.ensures.value) at c.specifiers.ensures) c.in_ok-specified.was
    (first_stopped _ _ _ c.parameter_storage.ensures.follows c.in_err-parameter_storage.was (search rules))

pub returns-in_err-declared : goal.returns-in_err-declared
unfolding one_parameter
returns-in_err-declared g c =
    step_ok _ (rw (c.first_of_declaration-first.ensures, c.as_slice-specifiers.ensures.value) at c.specifiers.ensures) c.in_ok-specified.was
    (step_err _ (step_ok _ c.parameter_storage.ensures.follows c.in_ok-parameter_storage.was c.declarator.ensures) c.in_err-declared.was (search rules))

pub returns : goal.returns
unfolding one_parameter
returns g c =
    step_ok _ (rw (c.first_of_declaration-first.ensures, c.as_slice-specifiers.ensures.value) at c.specifiers.ensures) c.in_ok-specified.was
    (step_ok _ (step_ok _ c.parameter_storage.ensures.follows c.in_ok-parameter_storage.was c.declarator.ensures) c.in_ok-declared.was c.parameter_rule.ensures)
