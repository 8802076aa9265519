use Rattle.std.proofs.Common.{rules, refl}
use Rattle.pw_check_walk.proofs.CallLaws.{step_ok, step_err}
use Rattle.pw_check_rules.specs.Leaves.{alone_by}
use Rattle.pw_check_records.proofs.RuleLaws.{made_ok}
use Rattle.pw_check_records.proofs.records.alone_anew.Goals as goal

pub returns-in_err-new_tag : goal.returns-in_err-new_tag
unfolding alone_by
returns-in_err-new_tag c = step_err _ c.new_tag.ensures c.in_err-new_tag.was (search rules)

pub returns : goal.returns
unfolding alone_by
returns c = step_ok _ c.new_tag.ensures c.in_ok-new_tag.was (made_ok _ _ _ _ _ refl refl)
