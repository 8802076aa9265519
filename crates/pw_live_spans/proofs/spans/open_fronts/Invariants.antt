use Rattle.std.proofs.Common.{◌≡◌, ◌⊎◌, ℕ, take, vec_len}
use Rattle.std.specs.Prelude.{◌↔◌}
use Rattle.pw_live_spans.specs.LivePoints.{IsLiveAtOne}
use Rattle.pw_live_spans.specs.Walking.{IsOpen, Marked}
use Rattle.pw_live_spans.proofs.spans.open_fronts.Given as goal

abbrev pub invariant-loop-b : goal.invariant-loop-b
invariant-loop-b l = record {
  place : l.walk.place ≡ l.fn.walk.place;
  count : vec_len l.walk.ends ≡ vec_len l.fn.walk.ends;
  marked : (u q : ℕ) → Marked l.walk u q ↔ (Marked l.fn.walk u q ⊎ (IsLiveAtOne l.f u (take l.b-index l.next) × (q ≡ l.fn.walk.place)));
  opens : (u : ℕ) → IsOpen l.walk u ↔ (IsOpen l.fn.walk u ⊎ IsLiveAtOne l.f u (take l.b-index l.next));
}
