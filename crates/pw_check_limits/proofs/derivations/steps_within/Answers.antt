use Rattle.std.proofs.Common.{[], ◌∷◌, length, refl, ap, ◌∙◌, arith}
use Rattle.pw_check_state.specs.PhraseViews.{view_derivations}
use Rattle.pw_check_walk.specs.Causes.{keeps}
use Rattle.pw_check_walk.specs.Found.{found_behind}
use Rattle.pw_check_walk.specs.declared.constraints.Which.TheVariants.{TypeDepth}
use Rattle.pw_check_rules.specs.Derivations.{derivation_limit}
use Rattle.pw_check_limits.proofs.BuiltLemmas.{count_told}
use Rattle.pw_check_limits.proofs.derivations.steps_within.Goals as goal

pub returns : goal.returns
returns c =
    let n = length (view_derivations c.args.steps.now) in
    c.keeps.ensures n (count_told c.args.steps.now (length c.args.steps.now) refl (omega arith))
    ∙ ap (λ o. found_behind o (keeps TypeDepth derivation_limit c.args.token n ∷ [])) c.none.ensures
