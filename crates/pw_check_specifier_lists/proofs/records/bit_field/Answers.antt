use Rattle.std.proofs.Common.{rules}
use Rattle.pw_check_walk.proofs.CallLaws.{step_ok, step_err}
use Rattle.pw_check_specifier_lists.specs.Specifying.{bit_field_rule}
use Rattle.pw_check_specifier_lists.proofs.records.bit_field.Goals as goal

pub returns-in_err-_declared : goal.returns-in_err-_declared
unfolding bit_field_rule
returns-in_err-_declared g c = step_err _ c.declarator.ensures c.in_err-_declared.was (search rules)

pub returns : goal.returns
unfolding bit_field_rule
returns g c = step_ok _ c.declarator.ensures c.in_ok-_declared.was (rw (c.unwrap_or-first.ensures, c.first_token.ensures) at c.no_bit_field.ensures.follows)
