-- Names with a table of the places at which they come first.
use Rattle.std.specs.Prelude.{◌≡◌, ℕ, if◌then◌else◌, is_none, List, [], ◌∷◌, ◌++◌, map, position}
use Rattle.std.specs.Borrow.{Bor}
use Rattle.std.specs.Str.{bytes_eq}
use Rattle.pw_scope.specs.Visible.{visible}

abbrev pub texts : List (Bor (List ℕ)) → List (List ℕ)
texts names = map (λ name. name.now) names

-- the table has the first place of each name
abbrev pub TellsFirst : List (List ℕ) → List (List ℕ × ℕ) → Type 0
TellsFirst names places = (name : List ℕ) → visible places name ≡ position (bytes_eq name) names

-- a name comes at a place, and its first place stands
abbrev pub noted : List (List ℕ × ℕ) → List ℕ → ℕ → List (List ℕ × ℕ)
noted places name place = if is_none (visible places name) then places ++ (name, place) ∷ [] else places
