use Rattle.std.proofs.Common.{◌≡◌, ◌∷◌, ◌++◌, [], None, length, drop, rules, arith, ap, sym, ◌∙◌}
use Rattle.std.proofs.lemmas.List.{length_push}
use Rattle.std.proofs.lemmas.Iterator.Consumers.{YieldsList-turn, YieldsList-end}
use Rattle.std.proofs.lemmas.Iterator.Adapters.{YieldsList-from_vec}
use Rattle.pw_check_state.specs.PhraseViews.{view_derivation, view_derivations, view_spot}
use Rattle.pw_check_state.specs.StateViews.{view_state}
use Rattle.pw_types.specs.Views.{view_qtype}
use Rattle.pw_check_walk.specs.Walks.{outcome}
use Rattle.pw_check_walk.specs.Found.{found}
use Rattle.pw_check_walk.proofs.FindingLaws.{end_ok}
use Rattle.pw_check_rules.specs.Derivations.{stepped, step_point}
use Rattle.pw_check_rules.specs.States.{records_in}
use Rattle.pw_check_limits.proofs.BuiltLemmas.{step_met, step_told, all_built}
use Rattle.pw_check_limits.proofs.derivations.stepped.Goals as goal

pub loop-step-preserved : goal.loop-step-preserved
loop-step-preserved c =
    let t = YieldsList-turn (YieldsList-from_vec {s = c.into_iter-step-iterator.result} c.args.derivations.items (search rules) (search rules))
    c.loop-step.yielded c.loop-step.step-iterator c.loop-step.yielded_by c.next.result c.next.new.self c.in-Some.step c.in-Some.is c.next.ensures.steps in
    let e = end_ok c.step_point.result.least _ (sym c.end.ensures ∙ c.in_ok-end.was) in
    let met : found (step_point (records_in (view_state c.args.state.now)) (view_spot c.args.spot.now) (view_derivation c.in-Some.step) (view_qtype c.loop-step.q)) ≡ None = cc in
    step_met
    (view_spot c.args.spot.now) c.args.derivations.items _ (view_state c.args.state.now) (length c.loop-step.yielded) _ (view_qtype c.loop-step.q) c.in-Some.step
    c.loop-step.invariant (length_push c.loop-step.yielded c.in-Some.step) t.0 t.1 met
    ∙ ap (λ q. outcome (stepped (view_spot c.args.spot.now) (view_derivations (drop (length (c.loop-step.yielded ++ c.in-Some.step ∷ [])) c.args.derivations.items)) q (view_state c.args.state.now)))
    (sym c.in_ok-q.ensures)

pub returns : goal.returns
returns c =
    let end = YieldsList-end (YieldsList-from_vec {s = c.into_iter-step-iterator.result} c.args.derivations.items (search rules) (search rules))
    c.loop-step.yielded c.loop-step.step-iterator c.loop-step.yielded_by c.next.result c.next.new.self c.in-None.is c.next.ensures.steps in
    record {
      made = all_built
          (view_spot c.args.spot.now) c.args.derivations.items _ (view_state c.args.state.now) (length c.loop-step.yielded) (view_qtype c.loop-step.q)
          c.loop-step.invariant (omega (arith, end.1));
      told = tt;
    }

pub returns-in_err-end : goal.returns-in_err-end
returns-in_err-end c =
    let t = YieldsList-turn (YieldsList-from_vec {s = c.into_iter-step-iterator.result} c.args.derivations.items (search rules) (search rules))
    c.loop-step.yielded c.loop-step.step-iterator c.loop-step.yielded_by c.next.result c.next.new.self c.in-Some.step c.in-Some.is c.next.ensures.steps in
    let seen : c.step_point.result.least ≡ found (step_point (records_in (view_state c.args.state.now)) (view_spot c.args.spot.now) (view_derivation c.in-Some.step) (view_qtype c.loop-step.q)) = cc in
    step_told
    (view_spot c.args.spot.now) c.args.derivations.items
    (stepped (view_spot c.args.spot.now) (view_derivations c.args.derivations.items) (view_qtype c.args.base) (view_state c.args.state.now))
    (view_state c.args.state.now) (length c.loop-step.yielded) (view_qtype c.loop-step.q) c.in-Some.step
    c.loop-step.invariant t.0 t.1 seen c.end.ensures c.in_err-end.was (search rules)
