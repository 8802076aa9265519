use Rattle.std.proofs.Common.{◌≡◌, ◌<◌, ◌≤◌, ℕ, true, vec_len}
use Rattle.std.specs.Prelude.{Some, slice_get, slice_index}
use Rattle.pw_flow.specs.Outline.{Stretch}
use Rattle.pw_live_fronts.specs.Blocks.{uses_first}
use Rattle.pw_live_fronts.specs.Exposing.{IsExposed}
use Rattle.pw_live_fronts.proofs.exposed.expose_all.Given as goal

abbrev pub invariant-loop-place : goal.invariant-loop-place
invariant-loop-place l = record {
  count : vec_len l.exposed.numbers ≡ l.f.temps;
  long : vec_len l.marks ≡ l.f.temps;
  low : (t : ℕ) → slice_index l.marks.items t ≤ l.place;
  there : (b t : ℕ) (s : Stretch) → b < l.place → slice_get l.f.blocks b ≡ Some s → uses_first t s.acts s.uses ≡ true → IsExposed l.exposed t;
}
