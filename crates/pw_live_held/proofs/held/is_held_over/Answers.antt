use Rattle.std.proofs.Common.{get_or, map}
use Rattle.std.proofs.lemmas.Bool.{both_ways}
use Rattle.std.proofs.lemmas.List.Elements.{Contains-get_or}
use Rattle.pw_live.specs.Points.{points}
use Rattle.pw_live_held.specs.Makers.{calls, IsOverCall}
use Rattle.pw_live_spans.proofs.Steps.{first_none, item_at}
use Rattle.pw_live_held.proofs.Spanning.{found_in, none_in, none_so_far}
use Rattle.pw_live_held.proofs.held.is_held_over.Goals as goal

pub loop-place-init : goal.loop-place-init
loop-place-init c = λ q covers _. first_none c.args.spans.now covers.0 covers.1

pub is_held_within-requires-clause-points : goal.is_held_within-requires-clause-points
is_held_within-requires-clause-points c = λ p low high. c.requires.points p (get_or c.args.spans.now c.loop-place.place (0, 0), Contains-get_or c.args.spans.now c.loop-place.place (0, 0) c.loop-place-test.true, (low, high))

pub returns-then-is_held_within : goal.returns-then-is_held_within
returns-then-is_held_within c =
    found_in (IsOverCall c.args.makers.now (map calls (points c.args.f.now)) c.args.t) c.args.spans.now (get_or c.args.spans.now c.loop-place.place (0, 0)) (Contains-get_or c.args.spans.now c.loop-place.place (0, 0) c.loop-place-test.true)
    (c.is_held_within.ensures.0 c.if-is_held_within.true)

pub loop-place-preserved : goal.loop-place-preserved
loop-place-preserved c =
    let spans = c.args.spans.now in
    let place = c.loop-place.place in
    none_so_far (IsOverCall c.args.makers.now (map calls (points c.args.f.now)) c.args.t) spans place (get_or spans place (0, 0)) c.loop-place-test.true (item_at spans place (0, 0) c.loop-place-test.true)
    (λ is. both_ways c.is_held_within.result c.if-is_held_within.false (c.is_held_within.ensures.1 is)) c.loop-place.invariant

pub returns : goal.returns
returns c = none_in (IsOverCall c.args.makers.now (map calls (points c.args.f.now)) c.args.t) c.args.spans.now c.loop-place.place c.loop-place-test.false c.loop-place.invariant
