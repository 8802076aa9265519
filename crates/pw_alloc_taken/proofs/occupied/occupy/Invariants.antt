use Rattle.std.proofs.Common.{◌≡◌, ◌⊎◌, ℕ, length, take}
use Rattle.std.specs.Prelude.{slice_index, ◌↔◌}
use Rattle.pw_live_spans.specs.Spans.{Covers}
use Rattle.pw_alloc_masks.specs.Masks.{HasRegister}
use Rattle.pw_alloc_taken.proofs.occupied.occupy.Given as goal

abbrev pub invariant-loop-place : goal.invariant-loop-place
invariant-loop-place l = record {
  long : length l.occupied ≡ length l.fn.occupied;
  each : (q k : ℕ) → HasRegister (slice_index l.occupied q) k ↔ (HasRegister (slice_index l.fn.occupied q) k ⊎ (Covers (take l.place l.spans) q × (k ≡ l.r)));
}
