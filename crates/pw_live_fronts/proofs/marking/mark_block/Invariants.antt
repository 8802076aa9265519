use Rattle.std.proofs.Common.{◌≡◌, ◌⊎◌, ℕ, take, vec_len}
use Rattle.std.specs.Prelude.{◌↔◌}
use Rattle.pw_fix.specs.Table.{HoldsAt}
use Rattle.pw_live_fronts.proofs.MarkSteps.{UsesSoFar, DefinesSoFar}
use Rattle.pw_live_fronts.proofs.marking.mark_block.Given as goal

abbrev pub invariant-loop-act : goal.invariant-loop-act
invariant-loop-act l = record {
  uses_count : vec_len l.uses.rows ≡ vec_len l.fn.uses.rows;
  uses_len : l.uses.len ≡ l.fn.uses.len;
  defines_count : vec_len l.defines.rows ≡ vec_len l.fn.defines.rows;
  defines_len : l.defines.len ≡ l.fn.defines.len;
  used : (m i : ℕ) → HoldsAt l.uses m i ↔ (HoldsAt l.fn.uses m i ⊎ ((m ≡ l.node) × UsesSoFar l.exposed (take l.act-index l.block.acts) i));
  defined : (m i : ℕ) → HoldsAt l.defines m i ↔ (HoldsAt l.fn.defines m i ⊎ ((m ≡ l.node) × DefinesSoFar l.exposed (take l.act-index l.block.acts) i));
}
