use Rattle.std.proofs.Common.{get_or}
use Rattle.pw_fix.specs.Row.{Holds}
use Rattle.pw_webs.proofs.WalkLaws.{item_at, clash}
use Rattle.pw_webs.proofs.RegionLaws.{stands_at}
use Rattle.pw_cluster_roots.proofs.Lists.{all_first, all_more, all_end}
use Rattle.pw_cluster_roots.proofs.rounds.are_settled.Goals as goal

pub loop-place-init : goal.loop-place-init
loop-place-init c = all_first (Holds c.args.settled.now)

pub returns-then-not-contains : goal.returns-then-not-contains
returns-then-not-contains c =
    let row = c.args.places.now in
    let i = c.loop-place.place-index in
    (get_or row i 0, stands_at row i 0 c.loop-place-test.true, λ h. clash c.contains.result c.if-not-contains.true (c.contains.ensures.1 h))

pub loop-place-preserved : goal.loop-place-preserved
loop-place-preserved c =
    let row = c.args.places.now in
    let i = c.loop-place.place-index in
    all_more (Holds c.args.settled.now) row i (get_or row i 0) c.loop-place-test.true (item_at row i 0 c.loop-place-test.true) (c.contains.ensures.0 c.if-not-contains.false) c.loop-place.invariant

pub returns : goal.returns
returns c = all_end (Holds c.args.settled.now) c.args.places.now c.loop-place.place-index c.loop-place-test.false c.loop-place.invariant
