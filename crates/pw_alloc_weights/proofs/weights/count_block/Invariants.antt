use Rattle.std.proofs.Common.{◌≡◌, ◌+◌, ◌*◌, ℕ, length, take}
use Rattle.std.specs.Prelude.{slice_index}
use Rattle.std.specs.List.{sum_by}
use Rattle.pw_alloc_temps.specs.Weights.{counted_in}
use Rattle.pw_alloc_weights.proofs.weights.count_block.Given as goal

abbrev pub invariant-loop-act : goal.invariant-loop-act
invariant-loop-act l = record {
  long : length l.weights ≡ length l.fn.weights;
  value : (u : ℕ) → slice_index l.weights u ≡ slice_index l.fn.weights u + l.factor * sum_by (counted_in u) (take l.act-index l.block.acts);
}
