use Rattle.std.proofs.Common.{rules}
use Rattle.pw_check_walk.proofs.CallLaws.{step_ok, step_err}
use Rattle.pw_check_rules.specs.Phrases.{declarator_rule}
use Rattle.pw_check_declarator.proofs.declarators.declarator_of.Goals as goal

pub returns-in_err-inner : goal.returns-in_err-inner
unfolding declarator_rule
returns-in_err-inner g c = step_err _ c.core_of.ensures c.in_err-inner.was (search rules)

pub returns-in_err-outer : goal.returns-in_err-outer
unfolding declarator_rule
returns-in_err-outer g c =
    step_ok _ c.core_of.ensures c.in_ok-inner.was
    (step_err _ (rw c.as_slice-suffixes_behind.ensures.value at c.suffixes.ensures) c.in_err-outer.was (search rules))

pub returns : goal.returns
unfolding declarator_rule
returns g c =
    step_ok _ c.core_of.ensures c.in_ok-inner.was
    (step_ok _ (rw c.as_slice-suffixes_behind.ensures.value at c.suffixes.ensures) c.in_ok-outer.was
    (rw c.as_slice.ensures.value at c.joined.ensures))
