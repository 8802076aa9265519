use Rattle.std.proofs.Common.{◌≡◌, ℕ, length, vec_len}
use Rattle.std.specs.Prelude.{◌↔◌}
use Rattle.pw_fix.specs.Table.{HoldsAt}
use Rattle.pw_live_fronts.specs.Exposing.{IsUsedFirst, IsDefined}
use Rattle.pw_live_fronts.proofs.MarkSteps.{OfBlocks}
use Rattle.pw_live_fronts.proofs.marking.mark_all.Given as goal

abbrev pub invariant-loop-place : goal.invariant-loop-place
invariant-loop-place l = record {
  uses_count : vec_len l.uses.rows ≡ length l.f.blocks;
  uses_len : l.uses.len ≡ length l.exposed.names.items;
  defines_count : vec_len l.defines.rows ≡ length l.f.blocks;
  defines_len : l.defines.len ≡ length l.exposed.names.items;
  used : (m i : ℕ) → HoldsAt l.uses m i ↔ OfBlocks l.f l.place (IsUsedFirst l.exposed) m i;
  defined : (m i : ℕ) → HoldsAt l.defines m i ↔ OfBlocks l.f l.place (IsDefined l.exposed) m i;
}
