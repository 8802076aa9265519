use Rattle.std.proofs.Common.{◌≡◌, ◌<◌, ap, arith, get_or, length}
use Rattle.pw_graph.specs.CallGraph.{Writes}
use Rattle.pw_webs.proofs.WalkLaws.{item_at}
use Rattle.pw_webs.proofs.RegionLaws.{none_more, none_end, stands_at}
use Rattle.pw_webs.proofs.PartLaws.{row_at, writes_at, no_write_at}
use Rattle.pw_webs.proofs.parts.is_written.Goals as goal

pub returns-then-weights-gt0 : goal.returns-then-weights-gt0
returns-then-weights-gt0 c =
    let g = c.args.graph.now in
    let ps = c.args.members.now in
    let i = c.loop-place.place-index in
    let p = get_or ps i 0 in
    let below = c.requires.places i 0 c.loop-place-test.true in
    let rows = c.requires.graph.ref_rows in
    let same : length c.as_slice-refs.result.now ≡ length g.refs = ap length c.as_slice-refs.ensures in
    let lt : p < length c.as_slice-refs.result.now = omega (arith, below, rows, same) in
    let at = row_at g p c.index-refs-place.result c.as_slice.result.now c.as_slice-refs.result.now c.as_slice-refs.ensures lt c.index-refs-place.is c.as_slice.ensures in
    (p, stands_at ps i 0 c.loop-place-test.true, writes_at g c.args.global p c.weights.result.0 c.weights.result.1 c.as_slice.result.now at c.weights.ensures c.if-weights-gt0.true)

pub loop-place-preserved : goal.loop-place-preserved
loop-place-preserved c =
    let g = c.args.graph.now in
    let ps = c.args.members.now in
    let i = c.loop-place.place-index in
    let p = get_or ps i 0 in
    let below = c.requires.places i 0 c.loop-place-test.true in
    let rows = c.requires.graph.ref_rows in
    let same : length c.as_slice-refs.result.now ≡ length g.refs = ap length c.as_slice-refs.ensures in
    let lt : p < length c.as_slice-refs.result.now = omega (arith, below, rows, same) in
    let at = row_at g p c.index-refs-place.result c.as_slice.result.now c.as_slice-refs.result.now c.as_slice-refs.ensures lt c.index-refs-place.is c.as_slice.ensures in
    none_more (λ f. Writes g f c.args.global) ps i p c.loop-place-test.true (item_at ps i 0 c.loop-place-test.true)
    (no_write_at g c.requires.graph c.args.global p c.weights.result.0 c.weights.result.1 c.as_slice.result.now at c.weights.ensures c.if-weights-gt0.false) c.loop-place.invariant

pub returns : goal.returns
returns c = none_end (λ f. Writes c.args.graph.now f c.args.global) c.args.members.now c.loop-place.place-index c.loop-place-test.false c.loop-place.invariant
