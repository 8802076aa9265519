-- Lists of a file: a count and as many items; and those in byte order without repeats.
use Rattle.std.specs.Prelude.{◌≡◌, ℕ, Bool, true, List, [], ◌∷◌, ◌++◌, length, Option, Some, None, Result}
use Rattle.std.specs.List.{flat_map, AllByRecursion}
use Rattle.std.specs.Ordering.{nat_cmp}
use Rattle.std.specs.Cmp.Lexicographic.{slice_cmp}
use Rattle.std.specs.declared.cmp.Ordering.TheVariants.{Less}
use Rattle.pw_value.specs.Names.{is_before}
use Rattle.pw_fields.specs.Fields.{◌>>=◌, done, u32_at, items_at, repeated, u32, FitsU32}

-- ---- a list: the count of its items, and the items

unfoldable pub counted : {X : Type 0} → (X → List ℕ) → List X → List ℕ
counted spelling xs = u32 (length xs) ++ flat_map spelling xs

-- a list that a file can hold
abbrev pub FitsList : {X : Type 0} → (X → Type 0) → List X → Type 0
FitsList Fits xs = FitsU32 (length xs) × AllByRecursion Fits xs

unfoldable pub counted_at : {X : Type 0} → (List ℕ → Result (X × List ℕ) ℕ) → List ℕ → Result (List X × List ℕ) ℕ
counted_at item = do
  n ← u32_at
  xs ← repeated item n
  done xs

-- ---- byte order

-- a text behind another, in byte order; anything may stand first
abbrev pub IsAbove : Option (List ℕ) → List ℕ → Type 0
IsAbove None text = Unit {0}
IsAbove (Some before) text = slice_cmp nat_cmp before text ≡ Less

abbrev pub IsRisingBehind : Option (List ℕ) → List (List ℕ) → Type 0
IsRisingBehind before [] = Unit {0}
IsRisingBehind before (text ∷ texts) = IsAbove before text × IsRisingBehind (Some text) texts

-- in byte order without repeats
abbrev pub IsRising : List (List ℕ) → Type 0
IsRising texts = IsRisingBehind None texts

abbrev pub is_above : Option (List ℕ) → List ℕ → Bool
is_above None text = true
is_above (Some before) text = is_before before text

-- each item is the one before of the next
abbrev pub next_key : {X : Type 0} → (X → List ℕ) → Option (List ℕ) → X → Option (List ℕ)
next_key key before x = Some (key x)

-- a list whose keys rise: each item is read behind the key of the one before it
unfoldable pub rising_at : {X : Type 0} → (X → List ℕ) → (Option (List ℕ) → List ℕ → Result (X × List ℕ) ℕ) → List ℕ → Result (List X × List ℕ) ℕ
rising_at key item = do
  n ← u32_at
  xs ← items_at item (next_key key) n None
  done xs
