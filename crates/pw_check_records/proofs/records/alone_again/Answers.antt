use Rattle.std.proofs.Common.{rules, refl}
use Rattle.pw_check_walk.proofs.CallLaws.{step_ok, step_err}
use Rattle.pw_check_rules.specs.Leaves.{alone_by}
use Rattle.pw_check_records.proofs.RuleLaws.{made_ok}
use Rattle.pw_check_records.proofs.records.alone_again.Goals as goal

pub returns-in_err-reference_by : goal.returns-in_err-reference_by
unfolding alone_by
returns-in_err-reference_by c = step_err _ c.reference_by.ensures c.in_err-reference_by.was (search rules)

pub returns : goal.returns
unfolding alone_by
returns c = step_ok _ c.reference_by.ensures c.in_ok-reference_by.was (made_ok _ _ _ _ _ refl refl)
