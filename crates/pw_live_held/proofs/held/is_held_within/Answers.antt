use Rattle.std.proofs.Common.{◌<◌, ◌∙◌, arith, rules, get_or, length, map, sym}
use Rattle.std.specs.Prelude.{None}
use Rattle.std.proofs.lemmas.Option.{slice_get-get_or}
use Rattle.pw_live.specs.Points.{points}
use Rattle.pw_live_held.specs.Makers.{calls}
use Rattle.pw_live_held.proofs.Calling.{other_call, own_call, none_more, found_one, found_none}
use Rattle.pw_live_held.proofs.held.is_held_within.Goals as goal

pub loop-p-init : goal.loop-p-init
loop-p-init c = record { high = omega arith; none = λ q low high _. omega (arith, low, high) }

pub last_within-requires-clause-points : goal.last_within-requires-clause-points
last_within-requires-clause-points c = λ p low lt.
    let high = c.loop-p.invariant.high in
    let long = c.requires.long in
    let there = c.requires.points p low (omega (arith, lt, high)) in
    omega (arith, there, long)

pub bounds-makers-p : goal.bounds-makers-p
bounds-makers-p c =
    let last = c.in-Some.ensures in
    let high = c.loop-p.invariant.high in
    let lt = last.1 in
    c.requires.points c.in-Some.p last.0 (omega (arith, lt, high))

pub offset_bounds-makers-p : goal.offset_bounds-makers-p
offset_bounds-makers-p c =
    let last = c.in-Some.ensures in
    let high = c.loop-p.invariant.high in
    let lt = last.1 in
    let there : c.in-Some.p < length c.args.makers.now = c.requires.points c.in-Some.p last.0 (omega (arith, lt, high)) in
    first_of (omega arith, search rules, grind arith)

pub returns-then-is_other : goal.returns-then-is_other
returns-then-is_other c =
    let last = c.in-Some.ensures in
    let high = c.loop-p.invariant.high in
    let lt = last.1 in
    let makers = c.args.makers.now in
    let all = map calls (points c.args.f.now) in
    let p = c.in-Some.p in
    let there = c.requires.points p last.0 (omega (arith, lt, high)) in
    found_one makers all c.args.t c.args.span.0 c.loop-p.to p c.args.span.1 last high (other_call makers all c.args.t p (get_or makers p None) (slice_get-get_or makers p None there) last.2 (sym c.is_other.ensures ∙ c.if-is_other.true))

pub loop-p-preserved : goal.loop-p-preserved
loop-p-preserved c =
    let last = c.in-Some.ensures in
    let high = c.loop-p.invariant.high in
    let lt = last.1 in
    let makers = c.args.makers.now in
    let all = map calls (points c.args.f.now) in
    let p = c.in-Some.p in
    let there = c.requires.points p last.0 (omega (arith, lt, high)) in
    record {
      high = omega (arith, lt, high);
      none = none_more makers all c.args.t c.args.span.0 c.loop-p.to p c.args.span.1 last (own_call makers all c.args.t p (get_or makers p None) (slice_get-get_or makers p None there) (sym c.is_other.ensures ∙ c.if-is_other.false)) c.loop-p.invariant.none;
    }

pub returns : goal.returns
returns c = found_none c.args.makers.now (map calls (points c.args.f.now)) c.args.t c.args.span.0 c.loop-p.to c.args.span.1 c.in_default.ensures c.loop-p.invariant.none

pub loop-p-smaller : goal.loop-p-smaller
loop-p-smaller c = let last = c.in-Some.ensures in last.1
