use Rattle.std.proofs.Common.{get_or}
use Rattle.pw_fix.specs.Row.{Holds}
use Rattle.pw_webs.proofs.WalkLaws.{item_at, clash}
use Rattle.pw_webs.proofs.RegionLaws.{none_first, none_more, none_end, stands_at}
use Rattle.pw_webs.proofs.region.is_any_within.Goals as goal

pub loop-place-init : goal.loop-place-init
loop-place-init c = none_first (Holds c.args.set.now)

pub returns-then-contains : goal.returns-then-contains
returns-then-contains c =
    let row = c.args.row.now in
    let i = c.loop-place.place-index in
    (get_or row i 0, stands_at row i 0 c.loop-place-test.true, c.contains.ensures.0 c.if-contains.true)

pub loop-place-preserved : goal.loop-place-preserved
loop-place-preserved c =
    let row = c.args.row.now in
    let i = c.loop-place.place-index in
    none_more (Holds c.args.set.now) row i (get_or row i 0) c.loop-place-test.true (item_at row i 0 c.loop-place-test.true) (λ h. clash c.contains.result c.if-contains.false (c.contains.ensures.1 h)) c.loop-place.invariant

pub returns : goal.returns
returns c = none_end (Holds c.args.set.now) c.args.row.now c.loop-place.place-index c.loop-place-test.false c.loop-place.invariant
