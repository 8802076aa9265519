use Rattle.std.proofs.Common.{◌≡◌, ◌≤◌, ◌+◌, ℕ, take, vec_len}
use Rattle.std.specs.Prelude.{if◌then◌else◌, nat_lt, slice_index}
use Rattle.std.specs.List.{sum_by}
use Rattle.pw_alloc_temps.specs.Weights.{weight_in}
use Rattle.pw_alloc_weights.proofs.weights.weigh.Given as goal

abbrev pub invariant-loop-place : goal.invariant-loop-place
invariant-loop-place l = record {
  long : vec_len l.weights ≡ l.f.temps;
  value : (u : ℕ) → slice_index l.weights.items u ≡ sum_by (weight_in u) (take l.place l.f.blocks);
}

abbrev pub invariant-loop-t : goal.invariant-loop-t
invariant-loop-t l = record {
  long : vec_len l.weights ≡ l.f.temps;
  high : l.t ≤ l.f.params;
  value : (u : ℕ) → slice_index l.weights.items u ≡ sum_by (weight_in u) l.f.blocks + (if nat_lt u l.t then 1 else 0);
}
