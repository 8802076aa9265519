-- The names of active functions: only the one that was called first is `$start`.
use Rattle.std.specs.Prelude.{ℕ, ◌≢◌, List, [], ◌∷◌}
use Rattle.pw_value.specs.ProgramNames.{start_name}

-- every name but the last is another
abbrev pub OthersDiffer : List (List ℕ) → Type 0
OthersDiffer [] = Unit {0}
OthersDiffer (n ∷ []) = Unit {0}
OthersDiffer (n ∷ m ∷ names) = (n ≢ start_name) × OthersDiffer (m ∷ names)
