use Rattle.std.proofs.Common.{Some, rules, refl, ap, sym}
use Rattle.pw_types.specs.Views.{view_type}
use Rattle.pw_check_walk.proofs.CallLaws.{step_ok, step_err}
use Rattle.pw_check_rules.specs.Leaves.{reference_by}
use Rattle.pw_check_records.proofs.RuleLaws.{made_ok}
use Rattle.pw_check_records.proofs.records.reference_anew.Goals as goal

pub returns-in_err-number : goal.returns-in_err-number
unfolding reference_by
returns-in_err-number c = step_err _ c.new_tag.ensures c.in_err-number.was (search rules)

pub returns : goal.returns
unfolding reference_by view_type
returns c =
    step_ok _ c.new_tag.ensures c.in_ok-number.was
    (made_ok _ _ _ _ _ (ap (λ q. (q, Some c.args.word.now.token)) (sym c.plain.ensures)) refl)
