-- What is left of a list once a prefix of it is gone.
use Rattle.std.specs.Prelude.{◌≡◌, ℕ, List, ◌++◌}

-- the second list is what is left of the first behind some prefix
abbrev pub EndsIn : List ℕ → List ℕ → Type 0
EndsIn whole left = (prefix : List ℕ) × (whole ≡ prefix ++ left)
