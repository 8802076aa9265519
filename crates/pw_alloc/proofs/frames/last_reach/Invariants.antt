use Rattle.std.proofs.Common.{◌≡◌, length}
use Rattle.pw_alloc.specs.Frames.{last_reach}
use Rattle.pw_alloc.proofs.frames.last_reach.Given as goal

abbrev pub invariant-loop-rest : goal.invariant-loop-rest
invariant-loop-rest l = last_reach l.at l.rest ≡ last_reach l.begin l.slots

abbrev pub decreases-loop-rest : goal.decreases-loop-rest
decreases-loop-rest l = length l.rest
