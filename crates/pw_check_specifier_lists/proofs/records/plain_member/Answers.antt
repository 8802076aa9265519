use Rattle.std.proofs.Common.{rules}
use Rattle.pw_check_walk.proofs.CallLaws.{step_ok, step_err}
use Rattle.pw_check_specifier_lists.specs.Specifying.{plain_member_rule}
use Rattle.pw_check_specifier_lists.proofs.records.plain_member.Goals as goal

pub returns-in_err-declared : goal.returns-in_err-declared
unfolding plain_member_rule
returns-in_err-declared g c = step_err _ c.declarator.ensures c.in_err-declared.was (search rules)

pub returns : goal.returns
unfolding plain_member_rule
returns g c = step_ok _ c.declarator.ensures c.in_ok-declared.was c.member_rule.ensures
