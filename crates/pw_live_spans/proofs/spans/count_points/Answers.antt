use Rattle.std.proofs.Common.{◌≡◌, length, arith, refl, ◌∙◌}
use Rattle.std.specs.Prelude.{Some, slice_get}
use Rattle.std.proofs.lemmas.Option.{slice_get_read}
use Rattle.pw_live_spans.proofs.Walks.{next_block, no_points, points_past}
use Rattle.pw_live_spans.proofs.spans.count_points.Goals as goal

pub loop-block-init : goal.loop-block-init
loop-block-init c = let none = no_points c.args.blocks.now in omega (arith, none)

pub loop-block-preserved : goal.loop-block-preserved
loop-block-preserved c =
    let blocks = c.args.blocks.now in
    let k = c.loop-block.block-index in
    let s = c.block-item.result in
    let at : slice_get blocks k ≡ Some s = slice_get_read blocks (length blocks) k s refl c.loop-block-test.true c.block-item.is in
    let next = next_block blocks k s at in
    let so_far = c.loop-block.invariant in
    let more = c.in_ok-more.ensures in
    omega (arith, next, so_far, more)

pub returns : goal.returns
returns c = c.loop-block.invariant ∙ points_past c.args.blocks.now c.loop-block.block-index c.loop-block-test.false
