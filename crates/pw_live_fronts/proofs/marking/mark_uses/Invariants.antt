use Rattle.std.proofs.Common.{◌≡◌, ◌⊎◌, ℕ, take, vec_len}
use Rattle.std.specs.Prelude.{◌↔◌}
use Rattle.pw_fix.specs.Table.{HoldsAt}
use Rattle.pw_live_fronts.specs.Exposing.{IsRead}
use Rattle.pw_live_fronts.proofs.marking.mark_uses.Given as goal

abbrev pub invariant-loop-t : goal.invariant-loop-t
invariant-loop-t l = record {
  count : vec_len l.uses.rows ≡ vec_len l.fn.uses.rows;
  len : l.uses.len ≡ l.fn.uses.len;
  holds : (m i : ℕ) → HoldsAt l.uses m i ↔ (HoldsAt l.fn.uses m i ⊎ ((m ≡ l.node) × IsRead l.exposed (take l.t-index l.read) i × ¬ HoldsAt l.defines l.node i));
}
