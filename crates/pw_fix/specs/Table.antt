-- What a list of sets holds.
use Rattle.std.specs.Prelude.{◌≡◌, ℕ, Some, slice_get}
use Rattle.pw_fix.specs.Row.{Holds}
use Rattle.pw_fix.specs.declared.bit_row.BitRow.{BitRow}
use Rattle.pw_fix.specs.declared.bit_rows.BitRows.{BitRows}

-- there is a row n, and it holds i
abbrev pub HoldsAt : BitRows → ℕ → ℕ → Type 0
HoldsAt table n i = (row : BitRow) × (slice_get table.rows.items n ≡ Some row) × Holds row i
