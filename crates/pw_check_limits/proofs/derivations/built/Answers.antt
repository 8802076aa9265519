use Rattle.std.proofs.Common.{[], ◌∷◌, length, ap, ◌∙◌, rules}
use Rattle.pw_check_state.specs.PhraseViews.{view_derivations, view_spot}
use Rattle.pw_check_state.specs.StateViews.{view_state}
use Rattle.pw_check_walk.specs.Causes.{keeps}
use Rattle.pw_check_walk.specs.Found.{found}
use Rattle.pw_check_walk.specs.declared.constraints.Which.TheVariants.{TypeDepth}
use Rattle.pw_check_walk.proofs.FindingLaws.{point_ok, point_err}
use Rattle.pw_check_rules.specs.Derivations.{built, derivation_limit, stepped}
use Rattle.pw_types.specs.Views.{view_qtype}
use Rattle.pw_check_limits.proofs.derivations.built.Goals as goal

pub returns : goal.returns
unfolding built
returns c =
    let steps = view_derivations c.args.derivations.items in
    point_ok (keeps TypeDepth derivation_limit c.args.spot.now.token (length steps) ∷ [])
    (stepped (view_spot c.args.spot.now) steps (view_qtype c.args.base)) (view_state c.args.state.now)
    (c.steps_within.ensures ∙ ap (λ ds. found (keeps TypeDepth derivation_limit c.args.spot.now.token (length (view_derivations ds)) ∷ [])) c.deref.ensures.value)
    c.end.ensures c.in_ok-end.was c.stepped.ensures

pub returns-in_err-end : goal.returns-in_err-end
unfolding built
returns-in_err-end c =
    let steps = view_derivations c.args.derivations.items in
    point_err (keeps TypeDepth derivation_limit c.args.spot.now.token (length steps) ∷ [])
    (stepped (view_spot c.args.spot.now) steps (view_qtype c.args.base)) (view_state c.args.state.now)
    (c.steps_within.ensures ∙ ap (λ ds. found (keeps TypeDepth derivation_limit c.args.spot.now.token (length (view_derivations ds)) ∷ [])) c.deref.ensures.value)
    c.end.ensures c.in_err-end.was (search rules)
