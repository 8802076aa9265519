use Rattle.std.proofs.Common.{◌≡◌, ◌+◌, ◌++◌, length}
use Rattle.pw_debug_frames.specs.Frames.{places_from}
use Rattle.pw_debug_frames.proofs.saving.save_places.Given as goal

abbrev pub invariant-loop-rest : goal.invariant-loop-rest
invariant-loop-rest l = record {
  count : l.i + length l.rest ≡ length l.f.saved;
  so_far : l.places ++ places_from l.head l.i l.rest ≡ places_from l.head 0 l.f.saved;
}

abbrev pub decreases-loop-rest : goal.decreases-loop-rest
decreases-loop-rest l = length l.rest
