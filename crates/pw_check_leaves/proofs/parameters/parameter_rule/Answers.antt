use Rattle.std.proofs.Common.{rules, refl, length, [], ◌∷◌, ◌++◌}
use Rattle.pw_check_state.specs.PhraseViews.{view_declared, view_parameters, view_specified}
use Rattle.pw_check_state.specs.StateViews.{view_state}
use Rattle.pw_types.specs.Views.{view_qtype}
use Rattle.pw_check_rules.specs.Derivations.{built}
use Rattle.pw_check_rules.specs.Leaves.{enter_parameter, parameter_rule}
use Rattle.pw_check_rules.specs.SpecifierLists.{is_register}
use Rattle.pw_check_rules.specs.States.{LocalObject}
use Rattle.pw_check_walk.proofs.CallLaws.{step_ok, step_err}
use Rattle.pw_check_walk.specs.Walks.{Done, bind}
use Rattle.pw_check_leaves.specs.Parts.{parameter_type}
use Rattle.pw_check_leaves.proofs.PointLaws.{done, moved}
use Rattle.pw_check_leaves.proofs.parameters.parameter_rule.Goals as goal

pub returns-in_err-ty : goal.returns-in_err-ty
unfolding parameter_rule
returns-in_err-ty c =
    let s = view_state c.args.state.now in
    let d = view_declared c.args.declared in
    let b = view_specified c.args.specified.now in
    step_err _ (moved (λ x. built x d.derivations b.ty s) c.spot_of-spot.ensures c.type_declared.ensures) c.in_err-ty.was (search rules)

pub returns-in_err-ty-2 : goal.returns-in_err-ty-2
unfolding parameter_rule parameter_type bind
returns-in_err-ty-2 c =
    let s = view_state c.args.state.now in
    let d = view_declared c.args.declared in
    let b = view_specified c.args.specified.now in
    let ps = view_parameters c.args.parameters.items in
    step_ok _ (moved (λ x. built x d.derivations b.ty s) c.spot_of-spot.ensures c.type_declared.ensures) c.in_ok-ty.was
    (step_err
    (λ t. Done (ps ++ record { name = d.name; ty = t.0 } ∷ [], enter_parameter d.name (LocalObject (length ps) t.0 (is_register b.storage)) t.1))
    (moved (λ x. parameter_type c.args.sole x b d.name (view_qtype c.in_ok-ty.ty) s) c.spot_of-spot.ensures c.parameter_asked.ensures)
    c.in_err-ty-2.was (search rules))

pub returns : goal.returns
unfolding parameter_rule parameter_type bind
returns c =
    let s = view_state c.args.state.now in
    let d = view_declared c.args.declared in
    let b = view_specified c.args.specified.now in
    let ps = view_parameters c.args.parameters.items in
    step_ok _ (moved (λ x. built x d.derivations b.ty s) c.spot_of-spot.ensures c.type_declared.ensures) c.in_ok-ty.was
    (step_ok
    (λ t. Done (ps ++ record { name = d.name; ty = t.0 } ∷ [], enter_parameter d.name (LocalObject (length ps) t.0 (is_register b.storage)) t.1))
    (moved (λ x. parameter_type c.args.sole x b d.name (view_qtype c.in_ok-ty.ty) s) c.spot_of-spot.ensures c.parameter_asked.ensures)
    c.in_ok-ty-2.was
    (done {made = c.in_ok-parameter_entered.field-0} _ _ refl c.in_ok-parameter_entered.ensures.parameters (search rules)))
