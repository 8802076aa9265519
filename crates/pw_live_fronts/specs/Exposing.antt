-- Temporaries with numbers.
use Rattle.std.specs.Prelude.{ℕ, ◌≡◌, true, Option, Some, List, slice_get, Contains}
use Rattle.pw_flow.specs.Outline.{Stretch}
use Rattle.pw_live_fronts.specs.Blocks.{uses_first, defines_any}
use Rattle.pw_live_fronts.specs.declared.named.Exposed.{Exposed}

-- the number of a temporary
abbrev pub IsNumber : Exposed → ℕ → ℕ → Type 0
IsNumber e t i = slice_get e.numbers.items t ≡ Some (Some i)

abbrev pub IsExposed : Exposed → ℕ → Type 0
IsExposed e t = (i : ℕ) × IsNumber e t i

-- the number of one of the temporaries that are read, and of the one that is written
abbrev pub IsRead : Exposed → List ℕ → ℕ → Type 0
IsRead e ts i = (t : ℕ) × Contains ts t × IsNumber e t i

abbrev pub IsWritten : Exposed → Option ℕ → ℕ → Type 0
IsWritten e o i = (t : ℕ) × (o ≡ Some t) × IsNumber e t i

-- the number of one that a block uses before it defines it, and of one that it defines
abbrev pub IsUsedFirst : Exposed → Stretch → ℕ → Type 0
IsUsedFirst e s i = (t : ℕ) × IsNumber e t i × (uses_first t s.acts s.uses ≡ true)

abbrev pub IsDefined : Exposed → Stretch → ℕ → Type 0
IsDefined e s i = (t : ℕ) × IsNumber e t i × (defines_any t s.acts ≡ true)
