use Rattle.std.proofs.Common.{arith, get_or}
use Rattle.pw_webs.proofs.WalkLaws.{visit_none, visit_next, visit_end, item_at}
use Rattle.pw_webs.proofs.walks.visit.Goals as goal

pub loop-place-init : goal.loop-place-init
loop-place-init c = visit_none c.args.within.now c.args.found.now c.args.waiting.now.items

pub find-requires : goal.find-requires
find-requires c =
    let lt = c.requires c.loop-place.place-index 0 c.loop-place-test.true in
    let same = c.loop-place.invariant.same in
    omega (arith, lt, same)

pub loop-place-preserved : goal.loop-place-preserved
loop-place-preserved c =
    let row = c.args.row.now in
    let i = c.loop-place.place-index in
    visit_next row i (get_or row i 0) c.args.within.now c.args.found.now c.loop-place.found c.find.new.found c.args.waiting.now.items c.loop-place.waiting.items c.find.new.waiting.items
    c.loop-place-test.true (item_at row i 0 c.loop-place-test.true) c.loop-place.invariant c.in_ok-find.ensures

pub returns : goal.returns
returns c = visit_end c.args.row.now c.loop-place.place-index c.args.within.now c.args.found.now c.loop-place.found c.args.waiting.now.items c.loop-place.waiting.items c.loop-place-test.false c.loop-place.invariant
