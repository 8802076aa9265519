use Rattle.std.proofs.Common.{◌≡◌, map}
use Rattle.pw_lexpr.specs.Placing.{block_or_bare}
use Rattle.pw_lexpr.proofs.blocks.filled.Given as goal

abbrev pub invariant-loop-place : goal.invariant-loop-place
invariant-loop-place l = l.blocks ≡ map block_or_bare l.yielded
