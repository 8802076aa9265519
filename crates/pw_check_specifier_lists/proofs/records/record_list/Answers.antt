use Rattle.std.proofs.Common.{rules}
use Rattle.pw_check_walk.proofs.CallLaws.{step_ok, step_err}
use Rattle.pw_check_specifier_lists.specs.Specifying.{record_rule}
use Rattle.pw_check_specifier_lists.proofs.records.record_list.Goals as goal

pub returns-in_err-number : goal.returns-in_err-number
unfolding record_rule
returns-in_err-number g c = step_err _ c.opening_rule.ensures c.in_err-number.was (search rules)

pub returns-in_err-found : goal.returns-in_err-found
unfolding record_rule
returns-in_err-found g c = step_ok _ c.opening_rule.ensures c.in_ok-number.was (step_err _ c.members.ensures c.in_err-found.was (search rules))

pub returns : goal.returns
unfolding record_rule
returns g c = step_ok _ c.opening_rule.ensures c.in_ok-number.was (step_ok _ c.members.ensures c.in_ok-found.was c.closing_rule.ensures)
