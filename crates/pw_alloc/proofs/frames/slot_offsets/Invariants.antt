use Rattle.std.proofs.Common.{◌≡◌, ◌++◌, map, length}
use Rattle.pw_alloc.specs.Frames.{last_reach, reaches_from, below}
use Rattle.pw_alloc.proofs.frames.slot_offsets.Given as goal

abbrev pub invariant-loop-rest : goal.invariant-loop-rest
invariant-loop-rest l = record {
  reach : last_reach l.at l.rest ≡ last_reach l.begin l.slots;
  so_far : l.offsets ++ map below (reaches_from l.at l.rest) ≡ map below (reaches_from l.begin l.slots);
}

abbrev pub decreases-loop-rest : goal.decreases-loop-rest
decreases-loop-rest l = length l.rest
