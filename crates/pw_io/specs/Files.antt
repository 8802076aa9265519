-- What a store holds and does: a map from names to bytes, and the list of the names put so far.
use Rattle.std.specs.Prelude.{◌≡◌, ℕ, ◌<◌, List, [], ◌∷◌, ◌++◌, map, length, take, Option, Some, IfSome, IsSomeAnd, ◌⊎◌, Vec, String, string_bytes}
use Rattle.std.specs.Option.{option_map}
use Rattle.std.specs.declared.alloc.Global.{Global}
use Rattle.std.specs.Ordering.{nat_cmp}
use Rattle.std.specs.Cmp.Lexicographic.{slice_cmp}
use Rattle.std.specs.FinMap as finite

-- files by name, in the byte order of the names
abbrev pub Files : Type 0
Files = finite.FinMap (slice_cmp nat_cmp) (List ℕ)

-- what a store tells
pub record Told : Type 0 where
  -- the files
  pub files : Files
  -- the names put so far, the first of them first
  pub puts : List (List ℕ)

-- after a put: the file has these bytes, and the name stands last in the list
abbrev pub after_put : Told → List ℕ → List ℕ → Told
after_put told name bytes =
    record { files = finite.insert told.files name bytes; puts = told.puts ++ name ∷ [] }

-- after a removal, which changes nothing where the name is absent
abbrev pub after_remove : Told → List ℕ → Told
after_remove told name = record { files = finite.remove told.files name; puts = told.puts }

-- the first `most` bytes
unfoldable pub prefix_of : ℕ → List ℕ → List ℕ
prefix_of most bytes = take most bytes

-- The store tells as before: one that told goes on telling the same.
abbrev pub Keeps : Option Told → Option Told → Type 0
Keeps old new = IfSome old (λ told. new ≡ Some told)

-- These are the names of all files, in byte order.
abbrev pub ListsNames : Option Told → List (String Global) → Type 0
ListsNames old names = IfSome old (λ told. map string_bytes names ≡ finite.keys told.files)

-- This is the front of the file, or `None` exactly where the name is absent.
abbrev pub ReadsPrefix : Option Told → List ℕ → ℕ → Option (Vec ℕ Global) → Type 0
ReadsPrefix old name most file =
    IfSome old (λ told. option_map (λ bytes. bytes.items) file ≡ option_map (prefix_of most) (finite.get told.files name))

-- The file has these bytes now, and the name was appended to the list; nothing else changed.
abbrev pub Puts : Option Told → Option Told → List ℕ → List ℕ → Type 0
Puts old new name bytes = IfSome old (λ told. new ≡ Some (after_put told name bytes))

-- The file is as before, absent, or a proper prefix of the bytes; all other files are as before.
abbrev pub LeavesFile : Files → Files → List ℕ → List ℕ → Type 0
LeavesFile old new name bytes =
    (new ≡ old) ⊎ (new ≡ finite.remove old name) ⊎ ((n : ℕ) × (n < length bytes) × (new ≡ finite.insert old name (take n bytes)))

-- A put that failed: what it leaves of the file, and that the list is as before.
abbrev pub PutsPart : Option Told → Option Told → List ℕ → List ℕ → Type 0
PutsPart old new name bytes =
    IfSome old (λ told. IsSomeAnd new (λ left. (left.puts ≡ told.puts) × LeavesFile told.files left.files name bytes))

-- The file was taken out; nothing else changed.
abbrev pub Removes : Option Told → Option Told → List ℕ → Type 0
Removes old new name = IfSome old (λ told. new ≡ Some (after_remove told name))
