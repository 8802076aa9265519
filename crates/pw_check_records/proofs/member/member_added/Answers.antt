use Rattle.std.proofs.Common.{[], ◌∷◌, ◌++◌, sym, refl, rules}
use Rattle.pw_types.specs.Views.{view_qtype}
use Rattle.pw_check_walk.specs.Walks.{Done, bind}
use Rattle.pw_check_walk.proofs.CallLaws.{step_ok, step_err}
use Rattle.pw_check_records.specs.Views.{view_member_list}
use Rattle.pw_check_records.proofs.RuleLaws.{made_ok}
use Rattle.pw_check_records.proofs.member.member_added.Goals as goal

pub returns-in_err-member_met : goal.returns-in_err-member_met
unfolding bind
returns-in_err-member_met c =
    let members = view_member_list c.args.members in
    step_err (λ t. Done (members ++ record { name = c.args.name.now; ty = view_qtype c.args.ty } ∷ [], t.1))
    c.member_met.ensures.follows c.in_err-member_met.was (search rules)

pub returns : goal.returns
unfolding bind
returns c =
    let members = view_member_list c.args.members in
    step_ok (λ t. Done (members ++ record { name = c.args.name.now; ty = view_qtype c.args.ty } ∷ [], t.1))
    c.member_met.ensures.follows c.in_ok-member_met.was
    (made_ok view_member_list _ _ _ _ (sym c.in_ok-push.ensures) refl)
