-- Cases with a table of their values.
use Rattle.std.specs.Prelude.{◌≡◌, ℕ, ◌==◌, nat_eq, is_some, List}
use Rattle.std.specs.List.{list_any}
use Rattle.std.specs.Map.{lookup}
use Rattle.pw_types.specs.TypedTrees.{CaseValue}

-- the table has an entry for each value of a case, and for no other
abbrev pub TellsValues : List CaseValue → List (ℕ × ℕ) → Type 0
TellsValues cases table = (value : ℕ) → is_some (lookup (nat_eq value) table) ≡ list_any (λ c. c.value == value) cases
