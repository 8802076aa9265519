use Rattle.std.proofs.Common.{subst, rules}
use Rattle.pw_types.specs.Views.{view_qtype}
use Rattle.pw_check_state.specs.PhraseViews.{view_derivations, view_name}
use Rattle.pw_check_state.specs.StateViews.{view_state}
use Rattle.pw_check_walk.specs.Calls.{Obeys}
use Rattle.pw_check_walk.proofs.CallLaws.{step_ok, step_err}
use Rattle.pw_check_rules.specs.Derivations.{built, spot_of}
use Rattle.pw_check_rules.specs.Leaves.{member_rule}
use Rattle.pw_check_records.specs.Parts.{member_behind}
use Rattle.pw_check_records.specs.Views.{view_member_list}
use Rattle.pw_check_records.proofs.member.member_rule.Goals as goal

pub returns-in_err-ty : goal.returns-in_err-ty
unfolding member_rule
returns-in_err-ty c =
    let s = view_state c.args.state.now in
    let ds = view_derivations c.args.declared.derivations.items in
    let by_spot =
    subst (λ p. Obeys view_qtype (built p ds (view_qtype c.args.specified.now.ty) s) c.type_declared.result s)
    c.spot_of-spot.ensures c.type_declared.ensures in
    step_err _ by_spot c.in_err-ty.was (search rules)

pub returns : goal.returns
unfolding member_rule
returns c =
    let s = view_state c.args.state.now in
    let name = view_name c.args.declared.name in
    let spot = spot_of name c.args.specified.now.first c.args.specified.now.tag in
    let ds = view_derivations c.args.declared.derivations.items in
    let q = view_qtype c.in_ok-ty.ty in
    let members = view_member_list c.args.members in
    let by_spot =
    subst (λ p. Obeys view_qtype (built p ds (view_qtype c.args.specified.now.ty) s) c.type_declared.result s)
    c.spot_of-spot.ensures c.type_declared.ensures in
    let added =
    subst (λ n. Obeys view_member_list (member_behind spot n q members s) c.member_added.result s) c.name_text.ensures
    (subst (λ p. Obeys view_member_list (member_behind p c.name_text.result.now q members s) c.member_added.result s) c.spot_of-spot.ensures c.member_added.ensures) in
    step_ok _ by_spot c.in_ok-ty.was added
