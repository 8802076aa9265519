use Rattle.std.proofs.Common.{◌≡◌, max, length}
use Rattle.pw_alloc.specs.Frames.{most_arguments}
use Rattle.pw_alloc.proofs.frames.most_of_ops.Given as goal

abbrev pub invariant-loop-rest : goal.invariant-loop-rest
invariant-loop-rest l = max l.most (most_arguments l.rest) ≡ max l.least (most_arguments l.ops)

abbrev pub decreases-loop-rest : goal.decreases-loop-rest
decreases-loop-rest l = length l.rest
