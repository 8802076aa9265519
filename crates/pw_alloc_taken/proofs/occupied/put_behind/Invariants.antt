use Rattle.std.proofs.Common.{◌≡◌, ◌⊎◌, ℕ, take}
use Rattle.std.specs.Prelude.{Contains, ◌↔◌}
use Rattle.pw_alloc_masks.specs.Sets.{AreSets, HasAt}
use Rattle.pw_alloc_taken.proofs.occupied.put_behind.Given as goal

abbrev pub invariant-loop-place : goal.invariant-loop-place
invariant-loop-place l = record {
  sets : AreSets l.made;
  points : l.made.points ≡ l.fn.made.points;
  each : (q k : ℕ) → HasAt l.made q k ↔ (HasAt l.fn.made q k ⊎ (Contains (take l.place l.definitions) q × (k ≡ l.r)));
}
