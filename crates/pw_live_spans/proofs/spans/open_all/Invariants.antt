use Rattle.std.proofs.Common.{◌≡◌, ◌⊎◌, ℕ, take, vec_len}
use Rattle.std.specs.Prelude.{◌↔◌, Contains}
use Rattle.pw_live_spans.specs.Walking.{IsOpen, Marked}
use Rattle.pw_live_spans.proofs.spans.open_all.Given as goal

abbrev pub invariant-loop-t : goal.invariant-loop-t
invariant-loop-t l = record {
  place : l.walk.place ≡ l.fn.walk.place;
  count : vec_len l.walk.ends ≡ vec_len l.fn.walk.ends;
  marked : (u q : ℕ) → Marked l.walk u q ↔ (Marked l.fn.walk u q ⊎ (Contains (take l.t-index l.temps) u × (q ≡ l.fn.walk.place)));
  opens : (u : ℕ) → IsOpen l.walk u ↔ (IsOpen l.fn.walk u ⊎ Contains (take l.t-index l.temps) u);
}
