use Rattle.std.proofs.Common.{rules}
use Rattle.pw_check_walk.proofs.CallLaws.{step_ok, step_err}
use Rattle.pw_check_specifier_lists.specs.Specifying.{valued_enumerator}
use Rattle.pw_check_specifier_lists.proofs.enumerations.valued_enumerator.Goals as goal

pub returns-in_err-enumerator_name : goal.returns-in_err-enumerator_name
unfolding valued_enumerator
returns-in_err-enumerator_name g c = step_err _ c.enumerator_name.ensures c.in_err-enumerator_name.was (search rules)

pub returns-in_err-whole : goal.returns-in_err-whole
unfolding valued_enumerator
returns-in_err-whole g c =
    step_ok _ c.enumerator_name.ensures c.in_ok-enumerator_name.was (step_err _ c.whole_rule.ensures c.in_err-whole.was (search rules))

pub returns-in_err-number : goal.returns-in_err-number
unfolding valued_enumerator
returns-in_err-number g c =
    step_ok _ c.enumerator_name.ensures c.in_ok-enumerator_name.was
    (step_ok _ c.whole_rule.ensures c.in_ok-whole.was (step_err _ (rw c.first_token.ensures at c.enumerator_value.ensures) c.in_err-number.was (search rules)))

pub returns : goal.returns
unfolding valued_enumerator
returns g c =
    step_ok _ c.enumerator_name.ensures c.in_ok-enumerator_name.was
    (step_ok _ c.whole_rule.ensures c.in_ok-whole.was
    (step_ok _ (rw c.first_token.ensures at c.enumerator_value.ensures) c.in_ok-number.was c.enumerator_rule.ensures))
