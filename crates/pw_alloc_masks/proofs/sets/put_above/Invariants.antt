use Rattle.std.proofs.Common.{◌≡◌, ◌+◌, ◌<◌, ◌≤◌, ℕ, length}
use Rattle.std.specs.Prelude.{◌↔◌}
use Rattle.pw_alloc_masks.specs.Sets.{HasPlace, AreJoinedBut}
use Rattle.pw_alloc_masks.proofs.sets.put_above.Given as goal

abbrev pub invariant-loop-place : goal.invariant-loop-place
invariant-loop-place l = record {
  high : l.place < l.points;
  long : length l.masks ≡ l.points + l.points;
  missing : AreJoinedBut l.place l.r l.masks l.points;
  points : (i k : ℕ) → l.points ≤ i → HasPlace l.masks i k ↔ HasPlace l.fn.masks i k;
}

abbrev pub decreases-loop-place : goal.decreases-loop-place
decreases-loop-place l = l.place
