-- The table of names of a file: names in rising order, which other fields name by their index.
use Rattle.std.specs.Prelude.{◌≡◌, ℕ, suc, ◌+◌, ◌<◌, ◌^◌, ◌↔◌, List, [], ◌∷◌, ◌++◌, length, Option, Some, None, Result, nat_lt, ◌&&◌, Bool, if◌then◌else◌, slice_index_or, Contains}
use Rattle.std.specs.List.{flat_map, list_any}
use Rattle.std.specs.Str.{bytes_eq}
use Rattle.std.specs.Ordering.{nat_cmp}
use Rattle.std.specs.Cmp.Lexicographic.{slice_cmp}
use Rattle.std.specs.declared.cmp.Ordering.TheVariants.{Less}
use Rattle.pw_value.specs.Names.{IsNameLength, is_name_length, is_before}
use Rattle.pw_fields.specs.Fields.{◌>>=◌, done, checked, u32_at, text_at, items_at, u32, text}

-- ---- the table

-- a text that may follow another in the table: as long as a name may be, and above it in byte order
abbrev pub is_entry : List ℕ → List ℕ → Bool
is_entry before name = is_name_length (length name) && is_before before name

unfoldable pub entry_at : List ℕ → List ℕ → Result (List ℕ × List ℕ) ℕ
entry_at before = checked (is_entry before) text_at

-- each entry is the one before of the next; no bytes are below each first name
abbrev pub next_entry : List ℕ → List ℕ → List ℕ
next_entry before name = name

unfoldable pub names_at : List ℕ → Result (List (List ℕ) × List ℕ) ℕ
names_at = do
  n ← u32_at
  names ← items_at entry_at next_entry n []
  done names

abbrev pub IsRisingFrom : List ℕ → List (List ℕ) → Type 0
IsRisingFrom before [] = Unit {0}
IsRisingFrom before (name ∷ names) = IsNameLength (length name) × (slice_cmp nat_cmp before name ≡ Less) × IsRisingFrom name names

-- rising names
pub record IsNameTable (names : List (List ℕ)) : Type 0 where
  pub count : length names < 2 ^ 32
  pub rising : IsRisingFrom [] names

unfoldable pub name_table : List (List ℕ) → List ℕ
name_table names = u32 (length names) ++ flat_map text names

-- ---- a name by its index

-- the first place at which the name stands, or the count of names
abbrev pub place_of : List (List ℕ) → List ℕ → ℕ
place_of [] name = 0
place_of (first ∷ names) name = if bytes_eq first name then 0 else suc (place_of names name)

unfoldable pub name_at : List (List ℕ) → List ℕ → Result (List ℕ × List ℕ) ℕ
name_at names = do
  i ← checked (λ i. nat_lt i (length names)) u32_at
  done (slice_index_or names i [])

abbrev pub name_index : List (List ℕ) → List ℕ → List ℕ
name_index names name = u32 (place_of names name)

-- ---- the rule that each name is used

abbrev pub is_among : List (List ℕ) → List ℕ → Bool
is_among used name = list_any (λ other. bytes_eq other name) used

-- where the first name of the table that is not used begins: so many bytes are left from there on, where
-- so many are left behind the table
abbrev pub first_unused : List (List ℕ) → List (List ℕ) → ℕ → Option ℕ
first_unused [] used behind = None
first_unused (name ∷ names) used behind = if is_among used name then first_unused names used behind else Some (length (flat_map text (name ∷ names)) + behind)

-- the names that are used, each once and in rising order
pub record IsTableOf (names used : List (List ℕ)) : Type 0 where
  pub rising : IsRisingFrom [] names
  pub of : (name : List ℕ) → Contains names name ↔ Contains used name

-- ---- how the table is made

-- a list without what stands right behind its like
abbrev pub unrepeated : List ℕ → List (List ℕ) → List (List ℕ)
unrepeated before [] = []
unrepeated before (name ∷ names) = if bytes_eq before name then unrepeated before names else name ∷ unrepeated name names
