use Rattle.std.proofs.Common.{◌≡◌, None, not, ap, ◌∙◌, refl}
use Rattle.pw_types.specs.TypeTrees.{type_of}
use Rattle.pw_types.specs.Views.{view_qtype}
use Rattle.pw_check_state.specs.PhraseViews.{view_spot}
use Rattle.pw_check_walk.specs.Found.{lesser_found, with_cause}
use Rattle.pw_check_walk.specs.Causes.{fault_of, needs, OneMember, CompleteMember}
use Rattle.pw_check_rules.specs.Kinds.{is_function}
use Rattle.pw_check_rules.specs.Leaves.{has_member}
use Rattle.pw_check_rules.specs.Limits.{completed, name_within, type_within}
use Rattle.pw_check_records.specs.Views.{view_member_list}
use Rattle.pw_check_records.proofs.PointLemmas.{found_in_turn, two_needed}
use Rattle.pw_check_records.proofs.member.member_found.Goals as goal

pub returns : goal.returns
returns c =
    let types = c.args.types.now in
    let spot = view_spot c.args.spot.now in
    let name = c.args.name.now in
    let q = view_qtype c.args.ty.now in
    let one = needs OneMember spot.token (not (has_member (view_member_list c.args.members.now) name)) in
    let two = needs CompleteMember spot.token (not (is_function (type_of q))) in
    let here : c.and-here.result.least ≡ lesser_found (with_cause (with_cause None one.broken (fault_of one)) two.broken (fault_of two)) c.completed.result.least =
    c.and-here.ensures
    ∙ ap (λ o. lesser_found o c.completed.result.least)
    (two_needed _ _ _ _ _ _ _ _ _ c.none.ensures c.needs.ensures c.needs-2.ensures (ap not c.contains.ensures) (ap not c.is_function.ensures)) in
    c.and.ensures
    ∙ found_in_turn one two
    (completed types spot CompleteMember (type_of q))
    (name_within spot.token name) (type_within types spot.token q) _ _ _ _
    (c.completed.ensures CompleteMember refl) here c.name_within-named.ensures c.in_ok-type_within.ensures
