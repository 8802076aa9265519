use Rattle.std.proofs.Common.{◌≡◌, ◌≢◌, ℕ, take, vec_len}
use Rattle.std.specs.Prelude.{Contains, slice_index}
use Rattle.pw_live_fronts.specs.Exposing.{IsExposed}
use Rattle.pw_live_fronts.proofs.exposed.expose_uses.Given as goal

abbrev pub invariant-loop-t : goal.invariant-loop-t
invariant-loop-t l = record {
  count : vec_len l.exposed.numbers ≡ vec_len l.fn.exposed.numbers;
  kept : (u : ℕ) → IsExposed l.fn.exposed u → IsExposed l.exposed u;
  there : (u : ℕ) → Contains (take l.t-index l.uses) u → slice_index l.marks u ≢ l.mark → IsExposed l.exposed u;
}
