-- The names of the files in a folder, by what is told of each entry and of each name.
-- `tells name told` says that `told` is what is told of that name; `gives` says what the entries give, one by one.
use Rattle.std.specs.Prelude.{◌≡◌, ◌≢◌, ◌⊎◌, ℕ, List, [], ◌∷◌, ◌++◌, map, None, Some, Ok, Err, Option, Result, String, string_bytes}
use Rattle.std.specs.Fs.{IsDir, dir_entry_name, file_type}
use Rattle.std.specs.IoError.{error_kind, raw_os_error}
use Rattle.std.specs.Iterator.{Drains, YieldsThen}
use Rattle.std.specs.List.{FoldsTo}
use Rattle.std.specs.List.Sorted.{IsPermutation}
use Rattle.std.specs.declared.alloc.Global.{Global}
use Rattle.std.specs.declared.fs.attrs.Metadata.{Metadata}
use Rattle.std.specs.declared.fs.dir.DirEntry.{DirEntry}
use Rattle.std.specs.declared.io.Error.{Error}
use Rattle.std.specs.declared.io.ErrorKind.{ErrorKind}

-- The names behind a name of which this is told: it stands last where it is a file's; a folder's, and one of nothing, is left out.
abbrev pub PutsName : List (String Global) → List ℕ → Result Metadata Error → List (String Global) → Type 0
PutsName old name (Ok metadata) new =
    (IsDir (file_type metadata) → new ≡ old) × (¬ (IsDir (file_type metadata)) → map string_bytes new ≡ map string_bytes old ++ name ∷ [])
PutsName old name (Err fault) new = (error_kind fault ≡ ErrorKind.NotFound) × (new ≡ old)

-- The fault of an entry whose name is no text. The system's own faults, which have a number, are none, also where they are
-- of this kind.
abbrev pub HasNoText : Error → Type 0
HasNoText fault = (error_kind fault ≡ ErrorKind.InvalidFilename) × (raw_os_error fault ≡ None)

-- The names behind an entry. One whose name is no text is left out.
abbrev pub PutsEntry : {R A F D : Type 0} → (List ℕ → Result Metadata Error → Type 0) → List (String Global) → Result (DirEntry R A F D) Error → List (String Global) → Type 0
PutsEntry tells old (Ok entry) new =
    (told : Result Metadata Error) × tells (dir_entry_name entry) told × PutsName old (dir_entry_name entry) told new
PutsEntry tells old (Err fault) new = HasNoText fault × (new ≡ old)

-- The fault at an entry: the entry's own, that of what is told of its name, or want of memory.
abbrev pub FailsAt : {R A F D : Type 0} → (List ℕ → Result Metadata Error → Type 0) → Result (DirEntry R A F D) Error → Error → Type 0
FailsAt tells (Ok entry) fault =
    (told : Result Metadata Error) × tells (dir_entry_name entry) told
    × ((error_kind fault ≡ ErrorKind.OutOfMemory) ⊎ ((told ≡ Err fault) × (error_kind fault ≢ ErrorKind.NotFound)))
FailsAt tells (Err own) fault = (fault ≡ own) × ¬ (HasNoText own)

-- Of the entries, which were taken to their end, none had a fault, and these are the names of the files among them, in
-- their order.
abbrev pub FindsFiles : {S R A F D : Type 0} → (S → Option (Result (DirEntry R A F D) Error) → S → Type 0) → (List ℕ → Result Metadata Error → Type 0) → S → List (String Global) → Type 0
FindsFiles {S} {R} {A} {F} {D} gives tells entries found =
    (items : List (Result (DirEntry R A F D) Error)) × Drains gives entries items × FoldsTo (PutsEntry tells) [] items found

-- The same in any order.
abbrev pub ListsFiles : {S R A F D : Type 0} → (S → Option (Result (DirEntry R A F D) Error) → S → Type 0) → (List ℕ → Result Metadata Error → Type 0) → S → List (String Global) → Type 0
ListsFiles gives tells entries names = (found : List (String Global)) × FindsFiles gives tells entries found × IsPermutation found names

-- This is the fault of the first entry that has one, or want of memory.
abbrev pub FailsInList : {S R A F D : Type 0} → (S → Option (Result (DirEntry R A F D) Error) → S → Type 0) → (List ℕ → Result Metadata Error → Type 0) → S → Error → Type 0
FailsInList {S} {R} {A} {F} {D} gives tells entries fault =
    (error_kind fault ≡ ErrorKind.OutOfMemory)
    ⊎ ((items : List (Result (DirEntry R A F D) Error)) × (found : List (String Global)) × (item : Result (DirEntry R A F D) Error) × (left : S)
    × YieldsThen gives entries items (Some item) left × FoldsTo (PutsEntry tells) [] items found × FailsAt tells item fault)
