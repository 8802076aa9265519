-- What is known of the fronts of blocks.
use Rattle.std.specs.Prelude.{ℕ, ◌≡◌, ◌-◌, ◌<◌, ◌↔◌, true, Some, length, slice_get, vec_len}
use Rattle.pw_fix.specs.Row.{Holds}
use Rattle.pw_fix.specs.declared.bit_row.BitRow.{BitRow}
use Rattle.pw_flow.specs.Outline.{Outline}
use Rattle.pw_live_fronts.specs.Exposing.{IsNumber}
use Rattle.pw_live.specs.Liveness.{is_live_in}
use Rattle.pw_live_fronts.specs.declared.fronts.Fronts.{Fronts}

-- the row of a block, which is that of its node, holds the number of a temporary
pub record IsLiveAt (v : Fronts) (b t : ℕ) : Type 0 where
  pub number : ℕ
  pub is : IsNumber v.exposed t number
  pub row : BitRow
  pub at : slice_get v.rows.items (vec_len v.rows - 1 - b) ≡ Some row
  pub holds : Holds row number

-- the rows are those of a function: they hold what is live at the fronts of its blocks
pub record AreFronts (f : Outline) (v : Fronts) : Type 0 where
  pub blocks : vec_len v.rows ≡ length f.blocks
  pub temps : vec_len v.exposed.numbers ≡ f.temps
  pub live : (b t : ℕ) → b < length f.blocks → IsLiveAt v b t ↔ (is_live_in f t b ≡ true)
