use Rattle.std.proofs.Common.{◌≡◌, ◌⊎◌, ◌≤◌, ◌<◌, ℕ, length, max}
use Rattle.std.specs.Prelude.{slice_index, ◌↔◌}
use Rattle.pw_alloc_masks.specs.Masks.{HasRegister}
use Rattle.pw_alloc_taken.proofs.occupied.occupy_span.Given as goal

abbrev pub invariant-loop-p : goal.invariant-loop-p
invariant-loop-p l = record {
  long : length l.occupied ≡ length l.fn.occupied;
  low : l.fn.span.0 ≤ l.p;
  high : l.p ≤ max l.fn.span.0 l.fn.span.1;
  each : (q k : ℕ) → HasRegister (slice_index l.occupied q) k ↔ (HasRegister (slice_index l.fn.occupied q) k ⊎ ((l.fn.span.0 ≤ q) × (q < l.p) × (k ≡ l.r)));
}
