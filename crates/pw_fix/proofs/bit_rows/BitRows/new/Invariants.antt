use Rattle.std.proofs.Common.{◌≡◌, ℕ, All, vec_len}
use Rattle.pw_fix.specs.Row.{Holds}
use Rattle.pw_fix.specs.declared.bit_row.BitRow.{BitRow}
use Rattle.pw_fix.proofs.bit_rows.BitRows.new.Given as goal

abbrev pub invariant-loop : goal.invariant-loop
invariant-loop l = record {
  count : vec_len l.rows ≡ l.counter;
  length : All (λ (row : BitRow). row.len ≡ l.len) l.rows.items;
  empty : All (λ (row : BitRow). (i : ℕ) → ¬ (Holds row i)) l.rows.items;
}
