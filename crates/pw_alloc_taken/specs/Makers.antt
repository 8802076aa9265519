-- What is written before points: temporaries of the function, each at the points behind its definitions.
use Rattle.std.specs.Prelude.{ℕ, ◌≡◌, ◌<◌, ◌↔◌, Option, Some, List, slice_get, Contains}

-- each is one of so many temporaries
abbrev pub AreBelow : ℕ → List (Option ℕ) → Type 0
AreBelow temps makers = (p t : ℕ) → slice_get makers p ≡ Some (Some t) → t < temps

-- of each temporary a row has the points below one directly behind its definitions
abbrev pub AreDefinitions : List (Option ℕ) → ℕ → List (List ℕ) → Type 0
AreDefinitions makers below rows = (t q : ℕ) (row : List ℕ) → slice_get rows t ≡ Some row → Contains row q ↔ ((q < below) × (slice_get makers q ≡ Some (Some t)))
