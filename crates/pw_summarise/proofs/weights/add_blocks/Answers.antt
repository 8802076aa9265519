use Rattle.std.proofs.Common.{take, sym, subst, ◌∙◌}
use Rattle.std.proofs.lemmas.List.{map-id}
use Rattle.pw_files.specs.Rising.{IsRising}
use Rattle.pw_summarise.specs.Summarises.{weight}
use Rattle.pw_summarise.specs.Tallies.{with_ops, with_blocks}
use Rattle.pw_summarise.proofs.WeightLaws.{names_kept, blocks_keep, map_twice, folded_on}
use Rattle.pw_summarise.proofs.weights.add_blocks.Goals as goal

pub loop-block-init : goal.loop-block-init
loop-block-init c = sym (map-id c.args.refs.now)

pub add_ops-requires : goal.add_ops-requires
add_ops-requires c =
    let blocks = take c.loop-block.block-index c.args.blocks.now in
    rw c.loop-block.invariant (subst IsRising (sym (names_kept (with_blocks blocks) (blocks_keep blocks) c.args.refs.now)) c.requires)

pub loop-block-preserved : goal.loop-block-preserved
loop-block-preserved c =
    (rw (c.weight.ensures, c.as_slice.ensures) at c.add_ops.ensures)
    ∙ rw c.loop-block.invariant (map_twice _ _ _ (λ r. folded_on (λ r b. with_ops (weight b.depth) b.ops r) c.args.blocks.now c.loop-block.block-index c.block-item.result r c.loop-block-test.true c.block-item.is) c.args.refs.now)
