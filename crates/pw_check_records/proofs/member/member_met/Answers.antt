use Rattle.std.proofs.Common.{ap, sym, ◌∙◌}
use Rattle.pw_types.specs.Views.{view_qtype}
use Rattle.pw_check_state.specs.PhraseViews.{view_spot}
use Rattle.pw_check_state.specs.StateViews.{view_state}
use Rattle.pw_check_walk.specs.Found.{found}
use Rattle.pw_check_walk.specs.Walks.{bind}
use Rattle.pw_check_rules.specs.States.{records_in}
use Rattle.pw_check_records.specs.Parts.{member_point}
use Rattle.pw_check_records.specs.Views.{view_member_list}
use Rattle.pw_check_walk.proofs.FindingLaws.{point_end}
use Rattle.pw_check_records.proofs.PointLemmas.{found_named, named_end}
use Rattle.pw_check_records.proofs.member.member_met.Goals as goal

pub returns-clause-follows : goal.returns-clause-follows
unfolding bind
returns-clause-follows c =
    let s = view_state c.args.state.now in
    let spot = view_spot c.args.spot.now in
    let q = view_qtype c.args.ty.now in
    let members = view_member_list c.args.members.now in
    point_end (member_point (records_in s) spot c.args.name.now q members) s _ _
    (c.in_ok-member_found.ensures ∙ ap (λ rs. found (member_point rs spot c.args.name.now q members)) c.records.ensures)
    c.end.ensures

pub returns-clause-named : goal.returns-clause-named
returns-clause-named c =
    named_end _ c.end.result _ c.end.ensures (λ none. found_named c.records.result.now (view_spot c.args.spot.now) c.args.name.now (view_qtype c.args.ty.now) (view_member_list c.args.members.now)
    (sym c.in_ok-member_found.ensures ∙ none))
