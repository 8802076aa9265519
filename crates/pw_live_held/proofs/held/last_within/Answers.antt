use Rattle.std.proofs.Common.{◌-◌, ◌<◌, get_or, length, map, arith, rules}
use Rattle.std.specs.Prelude.{None}
use Rattle.std.proofs.lemmas.Bool.{both_ways}
use Rattle.std.proofs.lemmas.Option.{slice_get-get_or}
use Rattle.pw_live.specs.Points.{points}
use Rattle.pw_live_held.specs.Makers.{calls}
use Rattle.pw_live_held.proofs.Calling.{last_at, last_from, none_from}
use Rattle.pw_live_held.proofs.held.last_within.Goals as goal

pub returns-then-to-from : goal.returns-then-to-from
returns-then-to-from c = let past = c.if-to-from.true in λ q low high _. omega (arith, past, low, high)

pub bounds-lasts-end : goal.bounds-lasts-end
bounds-lasts-end c = let some = c.if-to-from.false in c.requires.points (c.args.to - 1) (omega (arith, some)) (omega (arith, some))

pub offset_bounds-lasts-end : goal.offset_bounds-lasts-end
offset_bounds-lasts-end c =
    let some = c.if-to-from.false in
    let lt : c.args.to - 1 < length c.args.lasts.now = c.requires.points (c.args.to - 1) (omega (arith, some)) (omega (arith, some)) in
    first_of (omega arith, search rules, grind arith)

pub returns-then-is_before : goal.returns-then-is_before
returns-then-is_before c =
    let lasts = c.args.lasts.now in
    let to = c.args.to in
    let some = c.if-to-from.false in
    let lt = c.requires.points (to - 1) (omega (arith, some)) (omega (arith, some)) in
    let all = map calls (points c.args.f.now) in
    let last = get_or lasts (to - 1) None in
    none_from all c.args.from to last (c.is_before.ensures.0 c.if-is_before.true) (last_at all lasts to last c.requires.lasts (omega (arith, some)) (slice_get-get_or lasts (to - 1) None lt))

pub returns-else-is_before : goal.returns-else-is_before
returns-else-is_before c =
    let lasts = c.args.lasts.now in
    let to = c.args.to in
    let some = c.if-to-from.false in
    let lt = c.requires.points (to - 1) (omega (arith, some)) (omega (arith, some)) in
    let all = map calls (points c.args.f.now) in
    let last = get_or lasts (to - 1) None in
    last_from all c.args.from to last (λ before. both_ways c.is_before.result c.if-is_before.false (c.is_before.ensures.1 before)) (last_at all lasts to last c.requires.lasts (omega (arith, some)) (slice_get-get_or lasts (to - 1) None lt))
