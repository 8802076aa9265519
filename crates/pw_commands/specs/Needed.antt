-- The files that a command needs, over what a store holds.
use Rattle.std.specs.Prelude.{◌≡◌, ℕ, List, [], ◌∷◌, ◌++◌, codes, Option, Some, None, Result, Ok, Err}
use Rattle.std.specs.FinMap as finite
use Rattle.pw_io.specs.Files.{Files, prefix_of}
use Rattle.pw_value.specs.Limits.{kept_limit}
use Rattle.pw_value.specs.declared.fault.FileError.{FileError}
use Rattle.pw_value.specs.declared.fault.FileError.TheVariants as file
use Rattle.pw_value.specs.declared.fault.FileError.TheVariants.{FileFault}
use Rattle.pw_top_answer.specs.declared.answer.Answer.{Answer}
use Rattle.pw_top_answer.specs.declared.answer.Answer.TheVariants.{BadFile, StoreFault, NoMemory}

-- the bytes of a file, as far as they count: of a kept file the first so many
abbrev pub counted_in : List ℕ → Option (List ℕ) → Result (List ℕ) Answer
counted_in name None = Err (BadFile name None)
counted_in name (Some bytes) = Ok (prefix_of kept_limit bytes)

-- the bytes of a needed file, or that it is absent
abbrev pub needed_bytes : Files → List ℕ → Result (List ℕ) Answer
needed_bytes files name = counted_in name (finite.get files name)

-- a reader's answer over a file's bytes: the value that stands in them, or the offset at which they are refused
abbrev pub found_in : {V : Type 0} → List ℕ → Result V ℕ → Result V Answer
found_in name (Ok value) = Ok value
found_in name (Err at) = Err (BadFile name (Some at))

abbrev pub read_by : {V : Type 0} → (List ℕ → Result V ℕ) → List ℕ → Result (List ℕ) Answer → Result V Answer
read_by reader name (Ok bytes) = found_in name (reader bytes)
read_by reader name (Err answer) = Err answer

-- what stands in a needed file; or that it is absent, or refused at an offset
abbrev pub needed : {V : Type 0} → (List ℕ → Result V ℕ) → Files → List ℕ → Result V Answer
needed reader files name = read_by reader name (needed_bytes files name)

-- a value before others, where both are there
abbrev pub before_others : {V : Type 0} → Result V Answer → Result (List V) Answer → Result (List V) Answer
before_others (Err answer) others = Err answer
before_others (Ok value) (Err answer) = Err answer
before_others (Ok value) (Ok values) = Ok (value ∷ values)

-- what stands in needed files, in order; or the first that is absent or refused
abbrev pub all_needed : {V : Type 0} → (List ℕ → Result V ℕ) → Files → List (List ℕ) → Result (List V) Answer
all_needed reader files [] = Ok []
all_needed reader files (name ∷ names) = before_others (needed reader files name) (all_needed reader files names)

-- ---- what the code answers for a value that is wanted

-- The answer in place of a value: the refusal that is due; a fault of the store and want of memory may come in its place.
abbrev pub StopsAs : {V : Type 0} → Answer → Result V Answer → Type 0
StopsAs StoreFault wanted = Unit {0}
StopsAs NoMemory wanted = Unit {0}
StopsAs answer wanted = wanted ≡ Err answer

-- the value that is wanted, or an answer in its place
abbrev pub Needs : {T V : Type 0} → (T → V) → Result T Answer → Result V Answer → Type 0
Needs view (Ok value) wanted = wanted ≡ Ok (view value)
Needs view (Err answer) wanted = StopsAs answer wanted

-- the answer for a file that is bad so, or want of memory
abbrev pub IsBadFile : List ℕ → Option ℕ → Answer → Type 0
IsBadFile name at NoMemory = Unit {0}
IsBadFile name at answer = answer ≡ BadFile name at

-- the answer for a file that was not read
abbrev pub IsRefusedFile : List ℕ → FileError → Answer → Type 0
IsRefusedFile name (FileFault at) answer = answer ≡ BadFile name (Some at)
IsRefusedFile name file.NoMemory answer = answer ≡ NoMemory

-- a value that is wanted was put behind others
abbrev pub Adds : {V : Type 0} → Result V Answer → List V → List V → Type 0
Adds (Ok value) old new = new ≡ old ++ value ∷ []
Adds (Err refusal) old new = ⊥

-- the same; or an answer in its place
abbrev pub AddsNeeded : {V : Type 0} → Result V Answer → List V → List V → Result (Unit {0}) Answer → Type 0
AddsNeeded wanted old new (Ok u) = Adds wanted old new
AddsNeeded wanted old new (Err answer) = StopsAs answer wanted
