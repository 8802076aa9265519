use Rattle.std.proofs.Common.{◌⊎◌, ◌+◌, ◌<◌, ◌≤◌, ℕ}
use Rattle.std.specs.Prelude.{◌↔◌}
use Rattle.pw_alloc_masks.specs.Masks.{HasRegister}
use Rattle.pw_alloc_masks.specs.Sets.{HasAmong}
use Rattle.pw_alloc_masks.proofs.sets.joined.Given as goal

abbrev pub invariant-loop-low : goal.invariant-loop-low
invariant-loop-low l = record {
  least : 0 < l.low;
  most : l.high ≤ l.points + l.points;
  holds : (k : ℕ) → (HasRegister l.found k ⊎ HasAmong l.masks l.low l.high k) ↔ HasAmong l.masks l.fn.from l.fn.to k;
}

abbrev pub decreases-loop-low : goal.decreases-loop-low
decreases-loop-low l = l.high
