-- How the names in scope are kept: a log of the entries, in which each tells the place of the one that it hides, and a table of the
-- place of each name's last entry.
use Rattle.std.specs.Prelude.{◌≡◌, ℕ, suc, Bool, List, [], ◌∷◌, ◌++◌, map, Option, None, Some, if◌then◌else◌}
use Rattle.std.specs.Borrow.{Bor}
use Rattle.std.specs.Map.{lookup}
use Rattle.std.specs.Option.{option_or, option_map}
use Rattle.std.specs.Str.{bytes_eq}
use Rattle.pw_scope.specs.declared.entry.Entry.{Entry}

-- the place of the last of these names that is this one
abbrev pub last_place : List (List ℕ) → List ℕ → Option ℕ
last_place [] name = None
last_place (first ∷ later) name = option_or (option_map suc (last_place later name)) (if bytes_eq name first then Some 0 else None)

module _ {T : Type 0} where
  -- what entries say: names, and names with what they stand for
  abbrev pub names_of : List (Entry T) → List (List ℕ)
  names_of entries = map (λ entry. entry.name.now) entries

  abbrev pub declared_by : List (Entry T) → List (List ℕ × T)
  declared_by entries = map (λ entry. (entry.name.now, entry.meaning)) entries

  -- behind these names, each entry tells the place of the one that it hides
  abbrev pub TellsHidden : List (List ℕ) → List (Entry T) → Type 0
  TellsHidden before [] = Unit {0}
  TellsHidden before (entry ∷ later) = (entry.hidden ≡ last_place before entry.name.now) × TellsHidden (before ++ entry.name.now ∷ []) later

-- whether two names are the same bytes, wherever they stand in the text
abbrev pub same_name : Bor (List ℕ) → Bor (List ℕ) → Bool
same_name a b = bytes_eq a.now b.now

-- the place that a table has for a name
abbrev pub place_at : List (Bor (List ℕ) × ℕ) → Bor (List ℕ) → Option ℕ
place_at table name = lookup (same_name name) table

-- a table has the place of each name's last entry
abbrev pub TellsLast : List (List ℕ) → List (Bor (List ℕ) × ℕ) → Type 0
TellsLast names table = (name : Bor (List ℕ)) → place_at table name ≡ last_place names name.now

-- the log and the table agree
pub record Agree {T : Type 0} (entries : List (Entry T)) (table : List (Bor (List ℕ) × ℕ)) : Type 0 where
  pub hidden : TellsHidden [] entries
  pub last : TellsLast (names_of entries) table
