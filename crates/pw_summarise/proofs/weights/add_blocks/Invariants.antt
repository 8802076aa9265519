use Rattle.std.proofs.Common.{◌≡◌, map, take}
use Rattle.pw_summarise.specs.Tallies.{with_blocks}
use Rattle.pw_summarise.proofs.weights.add_blocks.Given as goal

abbrev pub invariant-loop-block : goal.invariant-loop-block
invariant-loop-block l = l.refs ≡ map (with_blocks (take l.block-index l.blocks)) l.fn.refs
