-- Marks beside a table of names: which of its names were met.
use Rattle.std.specs.Prelude.{◌≡◌, ℕ, ◌<◌, Bool, false, List, [], length, slice_index_or}
use Rattle.pw_fields.specs.FieldNames.{is_among}

pub record Marks (names seen : List (List ℕ)) (flags : List Bool) : Type 0 where
  pub count : length flags ≡ length names
  pub each : (i : ℕ) → i < length names → slice_index_or flags i false ≡ is_among seen (slice_index_or names i [])
