use Rattle.std.proofs.Common.{◌≡◌, take}
use Rattle.pw_opt.proofs.again.same_blocks.Given as goal

abbrev pub invariant-loop-block : goal.invariant-loop-block
invariant-loop-block l = l.same ≡ take l.block-index l.blocks
