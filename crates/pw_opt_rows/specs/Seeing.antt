-- What a block sees of a row.
use Rattle.std.specs.Prelude.{ℕ, ◌≡◌, Bool, List, length, map, slice_index_or}
use Rattle.pw_opt_rules.specs.declared.flat.Flat.{Flat}
use Rattle.pw_opt_rules.specs.declared.flat.Flat.TheVariants.{Many}
use Rattle.pw_opt_rules.specs.Rows.{known, IsRowBelow}
use Rattle.pw_opt_places.specs.declared.places.Place.{Place}
use Rattle.pw_opt_places.specs.declared.places.Place.TheVariants.{Nowhere, Own, Shared}
use Rattle.pw_opt_places.specs.declared.places.Places.{Places}
use Rattle.pw_opt_rows.specs.declared.view.View.{View}
use Rattle.pw_opt_rows.specs.Joins.{IsOwnRow}
use Rattle.pw_opt_rows.specs.Places.{at_place}

-- what a block sees of each temporary
abbrev pub seen : List Place → ℕ → List Flat × List Flat → List Flat
seen places b row = map (at_place b row) places

abbrev pub seen_by : View → List Flat × List Flat → List Flat
seen_by v row = seen v.places.now.places.items v.block row

-- what is seen of shared places alone
abbrev pub at_rest : List Flat → Place → Flat
at_rest shared Nowhere = Many
at_rest shared (Own c j) = Many
at_rest shared (Shared i) = known shared i

abbrev pub rested : List Place → List Flat → List Flat
rested places shared = map (at_rest shared) places

-- what is known of the temporaries of these names
abbrev pub taken : List ℕ → List Flat → List Flat
taken names row = map (known row) names

-- a row has a place for each temporary
abbrev pub IsRowOf : Places → List Flat × List Flat → Type 0
IsRowOf ps row = (length row.0 ≡ length ps.names.items) × (length row.1 ≡ ps.own)

-- ---- rows as elements of a lattice

-- what may be at a shared place
abbrev pub may_at : List ℕ → (ℕ → ℕ → Bool) → ℕ → ℕ → Bool
may_at names may i n = may (slice_index_or names i 0) n

-- a row of the places in which each shared temporary has what it may have
abbrev pub IsOwn : Places → (ℕ → ℕ → Bool) → List Flat × List Flat → Type 0
IsOwn ps may row = IsOwnRow (may_at ps.names.items may) (length ps.names.items) row.0 × (length row.1 ≡ ps.own)

abbrev pub IsBelowShared : List Flat × List Flat → List Flat × List Flat → Type 0
IsBelowShared x y = IsRowBelow x.0 y.0
