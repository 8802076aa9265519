-- What a name stands for where declarations are in scope (ISO/IEC 9899:1990 6.1.2.1). The declarations are a list of pairs of a
-- name and what it stands for, the newest last. Leaving a scope cuts the list back to what was there at its start.
use Rattle.std.specs.Prelude.{ℕ, List, [], ◌∷◌, Option, None, Some, if◌then◌else◌}
use Rattle.std.specs.Option.{option_or}
use Rattle.std.specs.Str.{bytes_eq}

-- what a name stands for: what its last entry says
abbrev pub visible : {T : Type 0} → List (List ℕ × T) → List ℕ → Option T
visible [] name = None
visible (entry ∷ later) name = option_or (visible later name) (if bytes_eq name entry.0 then Some entry.1 else None)
