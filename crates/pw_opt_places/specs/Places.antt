-- Where rows keep what is known of temporaries.
use Rattle.std.specs.Prelude.{ℕ, ◌≡◌, ◌⊎◌, ◌<◌, ◌≤◌, Some, List, All, length, slice_get, slice_index_or}
use Rattle.pw_flow.specs.declared.flow.Op.{Op}
use Rattle.pw_flow.specs.declared.flow.Block.{Block}
use Rattle.pw_flow.specs.declared.flow.FlowFn.{FlowFn}
use Rattle.pw_flow.specs.Uses.{op_defines, end_uses}
use Rattle.pw_opt_order.specs.Reads.{ReadsFirst}
use Rattle.pw_opt_places.specs.declared.places.Place.{Place}
use Rattle.pw_opt_places.specs.declared.places.Place.TheVariants.{Nowhere, Own, Shared}

abbrev pub place_of : List Place → ℕ → Place
place_of places t = slice_index_or places t Nowhere

-- it goes from block to block
abbrev pub IsShared : List Place → ℕ → Type 0
IsShared places t = (i : ℕ) × (place_of places t ≡ Shared i)

-- a row has this place for temporaries of a block
abbrev pub IsPlaceIn : ℕ → Place → Type 0
IsPlaceIn b Nowhere = ⊥
IsPlaceIn b (Own c j) = c ≡ b
IsPlaceIn b (Shared i) = Unit {0}

abbrev pub IsAtHome : List Place → ℕ → ℕ → Type 0
IsAtHome places b t = (length places ≤ t) ⊎ IsPlaceIn b (place_of places t)

-- Shared temporaries have numbers, by which their names are listed; those of a block have numbers below its count; and no two
-- have one place.
pub record AreGiven (places : List Place) (names counts : List ℕ) : Type 0 where
  pub named : (t i : ℕ) → place_of places t ≡ Shared i → (i < length names) × (slice_index_or names i 0 ≡ t)
  pub placed : (i : ℕ) → i < length names → place_of places (slice_index_or names i 0) ≡ Shared i
  pub within : (t b j : ℕ) → place_of places t ≡ Own b j → j < slice_index_or counts b 0
  pub apart : (t u b j : ℕ) → place_of places t ≡ Own b j → place_of places u ≡ Own b j → t ≡ u
  pub fewer : (b : ℕ) → slice_index_or counts b 0 ≤ length places

-- and so many are the most that a block has
pub record ArePlaces (places : List Place) (names counts : List ℕ) (own : ℕ) : Type 0 where
  pub given : AreGiven places names counts
  pub most : (b : ℕ) → slice_index_or counts b 0 ≤ own
  pub least : (n : ℕ) → ((b : ℕ) → slice_index_or counts b 0 ≤ n) → own ≤ n

-- an operation defines what is at home in a block
abbrev pub DefinesAtHome : List Place → ℕ → Op → Type 0
DefinesAtHome places b o = (t : ℕ) → op_defines o ≡ Some t → IsAtHome places b t

-- what blocks define is at home in them
abbrev pub DefineAtHome : List Place → List Block → Type 0
DefineAtHome places blocks = (b : ℕ) (block : Block) → slice_get blocks b ≡ Some block → All (DefinesAtHome places b) block.ops

-- The places of a function's temporaries: what a block defines is at home there, and what it reads before it defines it is shared.
pub record ArePlacesOf (f : FlowFn) (places : List Place) : Type 0 where
  pub each : length places ≡ f.temps
  pub home : DefineAtHome places f.blocks
  pub first : (b : ℕ) (block : Block) (t : ℕ) → slice_get f.blocks b ≡ Some block → ReadsFirst t block.ops (end_uses block.end) → (f.temps ≤ t) ⊎ IsShared places t
