use Rattle.std.proofs.Common.{◌≡◌, map, take}
use Rattle.pw_webflow.specs.Direction.{directed_block}
use Rattle.pw_webflow.proofs.directing.direct_blocks.Given as goal

abbrev pub invariant-loop-block : goal.invariant-loop-block
invariant-loop-block l = l.directed ≡ map (directed_block l.webs) (take l.block-index l.blocks)
