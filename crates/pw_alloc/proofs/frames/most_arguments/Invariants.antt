use Rattle.std.proofs.Common.{◌≡◌, max, length}
use Rattle.std.specs.List.{flat_map}
use Rattle.pw_alloc.specs.Frames.{most_arguments}
use Rattle.pw_alloc.proofs.frames.most_arguments.Given as goal

abbrev pub invariant-loop-rest : goal.invariant-loop-rest
invariant-loop-rest l = max l.most (most_arguments (flat_map (λ b. b.ops) l.rest)) ≡ most_arguments (flat_map (λ b. b.ops) l.blocks)

abbrev pub decreases-loop-rest : goal.decreases-loop-rest
decreases-loop-rest l = length l.rest
