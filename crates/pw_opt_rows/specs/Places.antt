-- Places of rows. A row is what is known at shared places, and at those that blocks have for themselves.
use Rattle.std.specs.Prelude.{ℕ, ◌≡◌, ◌==◌, if◌then◌else◌, Some, List, All, slice_get, slice_set}
use Rattle.pw_flow.specs.declared.flow.Op.{Op}
use Rattle.pw_flow.specs.declared.flow.Block.{Block}
use Rattle.pw_flow.specs.Uses.{op_defines}
use Rattle.pw_opt_rules.specs.declared.flat.Flat.{Flat}
use Rattle.pw_opt_rules.specs.declared.flat.Flat.TheVariants.{Many}
use Rattle.pw_opt_rules.specs.Rows.{known}
use Rattle.pw_opt_places.specs.declared.places.Place.{Place}
use Rattle.pw_opt_places.specs.declared.places.Place.TheVariants.{Nowhere, Own, Shared}
use Rattle.pw_opt_places.specs.Places.{IsAtHome}

-- what a block sees at a place: nothing where it is another block's own
abbrev pub at_place : ℕ → List Flat × List Flat → Place → Flat
at_place b row Nowhere = Many
at_place b row (Own c j) = if c == b then known row.1 j else Many
at_place b row (Shared i) = known row.0 i

-- a row where something is known at a place
abbrev pub with_place : List Flat × List Flat → Place → Flat → List Flat × List Flat
with_place row Nowhere x = row
with_place row (Own c j) x = (row.0, slice_set row.1 j x)
with_place row (Shared i) x = (slice_set row.0 i x, row.1)

-- an operation of a block defines nothing that is away from home there
abbrev pub DefinesNoneAway : List Place → ℕ → Op → Type 0
DefinesNoneAway places b o = (t : ℕ) → op_defines o ≡ Some t → ¬ ¬ IsAtHome places b t

abbrev pub DefineNoneAway : List Place → List Block → Type 0
DefineNoneAway places blocks = (b : ℕ) (block : Block) → slice_get blocks b ≡ Some block → All (DefinesNoneAway places b) block.ops
