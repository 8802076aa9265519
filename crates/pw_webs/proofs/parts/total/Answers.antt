use Rattle.std.proofs.Common.{◌≡◌, ◌<◌, ap, arith, get_or, length}
use Rattle.std.proofs.lemmas.List.Sums.{sum_by_more}
use Rattle.pw_webs.specs.Webs.{weight}
use Rattle.pw_webs.proofs.PartLaws.{row_at, weight_at, weight_small}
use Rattle.pw_webs.proofs.parts.total.Goals as goal

pub overflow_add-sum : goal.overflow_add-sum
overflow_add-sum c =
    let g = c.args.graph.now in
    let i = c.loop-place.place-index in
    let p = get_or c.args.members.now i 0 in
    let below = c.requires.places i 0 c.loop-place-test.true in
    let rows = c.requires.graph.ref_rows in
    let same : length c.as_slice-refs.result.now ≡ length g.refs = ap length c.as_slice-refs.ensures in
    let lt : p < length c.as_slice-refs.result.now = omega (arith, below, rows, same) in
    let at = row_at g p c.index-refs-place.result c.as_slice.result.now c.as_slice-refs.result.now c.as_slice-refs.ensures lt c.index-refs-place.is c.as_slice.ensures in
    let small = weight_small g c.requires.graph c.args.global p c.weights-reads.result.0 c.weights-reads.result.1 c.as_slice.result.now at c.weights-reads.ensures in
    omega (arith, small.0, small.1)

pub overflow_add-sum-in-loop-place : goal.overflow_add-sum-in-loop-place
overflow_add-sum-in-loop-place c =
    let g = c.args.graph.now in
    let i = c.loop-place.place-index in
    let p = get_or c.args.members.now i 0 in
    let below = c.requires.places i 0 c.loop-place-test.true in
    let rows = c.requires.graph.ref_rows in
    let same : length c.as_slice-refs.result.now ≡ length g.refs = ap length c.as_slice-refs.ensures in
    let lt : p < length c.as_slice-refs.result.now = omega (arith, below, rows, same) in
    let at = row_at g p c.index-refs-place.result c.as_slice.result.now c.as_slice-refs.result.now c.as_slice-refs.ensures lt c.index-refs-place.is c.as_slice.ensures in
    let small = weight_small g c.requires.graph c.args.global p c.weights-reads.result.0 c.weights-reads.result.1 c.as_slice.result.now at c.weights-reads.ensures in
    let few = c.requires.graph.functions in
    let count = c.requires.count in
    let within = c.loop-place-test.true in
    let sum = c.loop-place.invariant.small in
    omega (arith, small.0, small.1, few, count, within, sum)

pub loop-place-preserved : goal.loop-place-preserved
loop-place-preserved c =
    let g = c.args.graph.now in
    let ps = c.args.members.now in
    let i = c.loop-place.place-index in
    let p = get_or ps i 0 in
    let below = c.requires.places i 0 c.loop-place-test.true in
    let rows = c.requires.graph.ref_rows in
    let same : length c.as_slice-refs.result.now ≡ length g.refs = ap length c.as_slice-refs.ensures in
    let lt : p < length c.as_slice-refs.result.now = omega (arith, below, rows, same) in
    let at = row_at g p c.index-refs-place.result c.as_slice.result.now c.as_slice-refs.result.now c.as_slice-refs.ensures lt c.index-refs-place.is c.as_slice.ensures in
    let small = weight_small g c.requires.graph c.args.global p c.weights-reads.result.0 c.weights-reads.result.1 c.as_slice.result.now at c.weights-reads.ensures in
    let is = weight_at g c.requires.graph c.args.global p c.weights-reads.result.0 c.weights-reads.result.1 c.as_slice.result.now at c.weights-reads.ensures in
    let more = sum_by_more (weight g c.args.global) ps i 0 c.loop-place-test.true in
    let before = c.loop-place.invariant.sum in
    let sum = c.loop-place.invariant.small in
    record { sum = omega (arith, more, is, before); small = omega (arith, small.0, small.1, sum) }
