use Rattle.std.proofs.Common.{◌≡◌, ◌+◌, ◌*◌, ◌==◌, ℕ, length, take}
use Rattle.std.specs.Prelude.{slice_index}
use Rattle.std.specs.List.{count_by}
use Rattle.pw_alloc_weights.proofs.weights.count_uses.Given as goal

abbrev pub invariant-loop-place : goal.invariant-loop-place
invariant-loop-place l = record {
  long : length l.weights ≡ length l.fn.weights;
  value : (u : ℕ) → slice_index l.weights u ≡ slice_index l.fn.weights u + l.factor * count_by (λ t. t == u) (take l.place l.uses);
}
