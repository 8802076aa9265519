use Rattle.std.proofs.Common.{not, [], ◌∷◌, rules, arith, refl}
use Rattle.std.proofs.lemmas.Grind.{common_steps}
use Rattle.pw_check_state.specs.PhraseViews.{view_spot}
use Rattle.pw_types.specs.TypeTrees.{type_of}
use Rattle.pw_types.specs.Views.{view_qtype}
use Rattle.pw_check_walk.specs.Causes.{ElementType, needs}
use Rattle.pw_check_rules.specs.Kinds.{is_function}
use Rattle.pw_check_rules.specs.Limits.{completed}
use Rattle.pw_check_limits.proofs.LimitLemmas.{found_pair}
use Rattle.pw_check_limits.proofs.derivations.step_point.Goals as goal

pub returns-in-ToArray : goal.returns-in-ToArray
returns-in-ToArray c =
    let f = c.completed.ensures ElementType refl in
    let p = found_pair (needs ElementType c.args.spot.now.token (not (is_function (type_of (view_qtype c.args.q.now)))))
    (completed c.args.types.now (view_spot c.args.spot.now) ElementType (type_of (view_qtype c.args.q.now)) ∷ []) in
    rw c.in-ToArray.is (first_of (cc, grind (arith, common_steps), search rules))
