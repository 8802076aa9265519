use Rattle.std.proofs.Common.{◌≡◌, ◌≤◌, ℕ, true, [], length, take, vec_len}
use Rattle.std.specs.Prelude.{slice_index}
use Rattle.pw_live_fronts.specs.Blocks.{uses_first, defines_any}
use Rattle.pw_live_fronts.specs.Exposing.{IsExposed}
use Rattle.pw_live_fronts.proofs.exposed.expose_block.Given as goal

abbrev pub invariant-loop-act : goal.invariant-loop-act
invariant-loop-act l = record {
  long : length l.marks ≡ length l.fn.marks;
  count : vec_len l.exposed.numbers ≡ vec_len l.fn.exposed.numbers;
  kept : (u : ℕ) → IsExposed l.fn.exposed u → IsExposed l.exposed u;
  low : (t : ℕ) → slice_index l.marks t ≤ l.mark;
  marked : (t : ℕ) → slice_index l.marks t ≡ l.mark → defines_any t (take l.act-index l.block.acts) ≡ true;
  there : (t : ℕ) → uses_first t (take l.act-index l.block.acts) [] ≡ true → IsExposed l.exposed t;
}
