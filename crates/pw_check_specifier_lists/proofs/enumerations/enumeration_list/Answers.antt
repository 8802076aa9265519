use Rattle.std.proofs.Common.{rules}
use Rattle.pw_check_walk.proofs.CallLaws.{step_ok, step_err}
use Rattle.pw_check_specifier_lists.specs.Specifying.{listed_enumeration}
use Rattle.pw_check_specifier_lists.proofs.enumerations.enumeration_list.Goals as goal

pub returns-in_err-enumerating_rule : goal.returns-in_err-enumerating_rule
unfolding listed_enumeration
returns-in_err-enumerating_rule g c = step_err _ c.enumerating_rule.ensures c.in_err-enumerating_rule.was (search rules)

pub returns : goal.returns
unfolding listed_enumeration
returns g c = step_ok _ c.enumerating_rule.ensures c.in_ok-enumerating_rule.was c.enumerators.ensures
