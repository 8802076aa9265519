-- Blocks in the places of their numbers.
use Rattle.std.specs.Prelude.{ℕ, Bool, true, false, if◌then◌else◌, Option, Some, None, unwrap_or, List, [], ◌∷◌, slice_get, slice_set}
use Rattle.pw_flow.specs.declared.flow.Block.{Block}
use Rattle.pw_lower.specs.declared.code.Numbered.{Numbered}
use Rattle.pw_lower.specs.Codes.{bare}

-- whether a place is there and has no block
abbrev pub is_vacant : Option (Option Block) → Bool
is_vacant (Some None) = true
is_vacant _ = false

-- a block in the place of its number, unless one stands there
abbrev pub put_at : ℕ → Block → List (Option Block) → List (Option Block)
put_at n b places = if is_vacant (slice_get places n) then slice_set places n (Some b) else places

abbrev pub put_all : List Numbered → List (Option Block) → List (Option Block)
put_all [] places = places
put_all (b ∷ rest) places = put_all rest (put_at b.number b.block places)

abbrev pub block_or_bare : Option Block → Block
block_or_bare place = unwrap_or place bare
