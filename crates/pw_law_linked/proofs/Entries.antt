-- In a table of different names each entry is found by its name.
use Rattle.std.specs.Prelude.{ℕ, ◌≡◌, ◌≢◌, Bool, cond, Some, List, [], ◌∷◌, ◌++◌, map}
use Rattle.std.specs.List.{AllByRecursion}
use Rattle.std.specs.Map.{lookup}
use Rattle.std.specs.Str.{bytes_eq}
use Rattle.std.proofs.Common.{ap, refl, ◌∙◌}
use Rattle.pw_flow.specs.ValidFlow.{AreDistinct}
use Rattle.pw_law_linked.proofs.Names.{same_name, other_name}

abbrev pub names_in : List (List ℕ × ℕ) → List (List ℕ)
names_in table = map (λ e. e.0) table

-- the name of an entry leads to its address
abbrev pub IsEntry : List (List ℕ × ℕ) → List ℕ × ℕ → Type 0
IsEntry table e = lookup (bytes_eq e.0) table ≡ Some e.1

-- a name in front that no entry behind has changes nothing
found_behind : (first : List ℕ × ℕ) (table es : List (List ℕ × ℕ)) → AllByRecursion (λ n. n ≢ first.0) (names_in es) → AllByRecursion (IsEntry table) es → AllByRecursion (IsEntry (first ∷ table)) es
found_behind first table [] others h = tt
found_behind first table (e ∷ es) others h = (
  ap (λ (b : Bool). cond b (Some first.1) (lookup (bytes_eq e.0) table)) (other_name e.0 first.0 others.0) ∙ h.0,
  found_behind first table es others.1 h.1,
)

pub entries_found : (es rest : List (List ℕ × ℕ)) → AreDistinct (names_in es) → AllByRecursion (IsEntry (es ++ rest)) es
entries_found [] rest distinct = tt
entries_found (e ∷ es) rest distinct = (
  ap (λ (b : Bool). cond b (Some e.1) (lookup (bytes_eq e.0) (es ++ rest))) (same_name e.0 e.0 refl),
  found_behind e (es ++ rest) es distinct.0 (entries_found es rest distinct.1),
)
