use Rattle.std.proofs.Common.{rules, refl, ap, ◌∙◌}
use Rattle.pw_check_state.specs.PhraseViews.{view_declared}
use Rattle.pw_check_state.specs.StateViews.{view_state}
use Rattle.pw_types.specs.Views.{view_qtype}
use Rattle.pw_check_walk.specs.Found.{found}
use Rattle.pw_check_walk.proofs.FindingLaws.{point_ok, point_err}
use Rattle.pw_check_rules.specs.Derivations.{built}
use Rattle.pw_check_rules.specs.Leaves.{named_type}
use Rattle.pw_check_rules.specs.Limits.{type_within}
use Rattle.pw_check_rules.specs.States.{records_in}
use Rattle.pw_check_walk.proofs.CallLaws.{step_ok, step_err}
use Rattle.pw_check_walk.specs.Walks.{bind, pure}
use Rattle.pw_check_leaves.proofs.PointLaws.{moved, made_there}
use Rattle.pw_check_leaves.proofs.names.named_type.Goals as goal

pub returns-in_err-ty : goal.returns-in_err-ty
unfolding named_type
returns-in_err-ty c = step_err _ (moved (λ x. built x (view_declared c.args.declared).derivations (view_qtype c.args.specified.now.ty) (view_state c.args.state.now)) c.spot_of-spot.ensures c.type_declared.ensures) c.in_err-ty.was (search rules)

pub returns-in_err-end : goal.returns-in_err-end
unfolding named_type bind
returns-in_err-end c =
    let s = view_state c.args.state.now in
    let q = view_qtype c.in_ok-ty.ty in
    step_ok _ (moved (λ x. built x (view_declared c.args.declared).derivations (view_qtype c.args.specified.now.ty) (view_state c.args.state.now)) c.spot_of-spot.ensures c.type_declared.ensures) c.in_ok-ty.was
    (point_err (type_within (records_in s) c.args.specified.now.first q) (pure q) s (c.in_ok-type_within.ensures ∙ ap (λ rs. found (type_within rs c.args.specified.now.first q)) c.records.ensures) c.end.ensures c.in_err-end.was (search rules))

pub returns : goal.returns
unfolding named_type bind
returns c =
    let s = view_state c.args.state.now in
    let q = view_qtype c.in_ok-ty.ty in
    step_ok _ (moved (λ x. built x (view_declared c.args.declared).derivations (view_qtype c.args.specified.now.ty) (view_state c.args.state.now)) c.spot_of-spot.ensures c.type_declared.ensures) c.in_ok-ty.was
    (point_ok (type_within (records_in s) c.args.specified.now.first q) (pure q) s (c.in_ok-type_within.ensures ∙ ap (λ rs. found (type_within rs c.args.specified.now.first q)) c.records.ensures) c.end.ensures c.in_ok-end.was (made_there q s refl refl))
