use Rattle.std.proofs.Common.{Err, ap, sym, subst, ◌∙◌}
use Rattle.pw_types.specs.Measures.{Defines, Refuses}
use Rattle.pw_types.specs.Records.{Follows, defined}
use Rattle.pw_types.specs.TypeTrees.{Record}
use Rattle.pw_types.specs.Views.{view_content, view_qtype, view_type}
use Rattle.pw_check_state.specs.StateViews.{view_state}
use Rattle.pw_check_walk.specs.Calls.{Obeys}
use Rattle.pw_check_walk.specs.Walks.{Done, bind}
use Rattle.pw_check_rules.specs.Kinds.{plain}
use Rattle.pw_check_rules.specs.Leaves.{closing_rule, content_by, content_point}
use Rattle.pw_check_rules.specs.States.{put_record, records_in}
use Rattle.pw_check_records.specs.Views.{view_member_list}
use Rattle.pw_check_records.proofs.ClosingLemmas.{content_is, content_met, content_told, of_members}
use Rattle.pw_check_records.proofs.RuleLaws.{made_ok, passed_ok, passed_err}
use Rattle.pw_check_records.proofs.closing.closing_rule.Goals as goal

pub define_record-requires : goal.define_record-requires
define_record-requires c =
    record { follows = subst (λ rs. Follows rs c.args.kind (view_content c.in-Ok.content)) c.records-types.ensures c.in-Ok.ensures.ok.follows }

pub returns-in_ok-define_record-in-Ok : goal.returns-in_ok-define_record-in-Ok
unfolding closing_rule bind view_type
returns-in_ok-define_record-in-Ok c =
    let s = view_state c.args.state.now in
    let members = view_member_list c.args.members in
    let here = content_by (records_in s) c.args.kind members in
    let d : Defines (records_in s) c.args.kind members (view_content c.in-Ok.content) =
    of_members (λ rs ms. Defines rs c.args.kind ms (view_content c.in-Ok.content)) _ _ _ _ c.records-types.ensures c.into_members-members.ensures c.in-Ok.ensures.ok in
    passed_ok view_qtype (content_point c.args.token here) (Done (plain (Record c.args.number), put_record c.args.number (defined c.args.kind here) s)) _ _
    (content_met (records_in s) c.args.kind members c.args.token _ d)
    (made_ok view_qtype _ _ _ _ (sym c.plain.ensures)
    (sym (c.in_ok-define_record-in-Ok.ensures.state ∙ ap (λ v. put_record c.args.number (defined c.args.kind v) s) (content_is (records_in s) c.args.kind members c.args.token _ d))))

pub returns-in-Err : goal.returns-in-Err
unfolding closing_rule bind
returns-in-Err c =
    let s = view_state c.args.state.now in
    let members = view_member_list c.args.members in
    let here = content_by (records_in s) c.args.kind members in
    let d : Refuses (records_in s) c.args.kind members c.in-Err.refused =
    of_members (λ rs ms. Refuses rs c.args.kind ms c.in-Err.refused) _ _ _ _ c.records-types.ensures c.into_members-members.ensures c.in-Err.ensures.refused in
    subst (λ f. Obeys view_qtype (closing_rule c.args.kind c.args.token c.args.number members s) (Err f) s) (sym c.record_fault.ensures)
    (passed_err view_qtype (content_point c.args.token here) (Done (plain (Record c.args.number), put_record c.args.number (defined c.args.kind here) s)) _ s
    (content_told (records_in s) c.args.kind members c.args.token c.in-Err.refused d))
