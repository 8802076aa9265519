-- Changes of the files of a store.
use Rattle.std.specs.Prelude.{◌≡◌, ℕ, ◌⊎◌, List, ◌∷◌, Option, Some, IsSomeAnd}
use Rattle.std.specs.List.{AllByRecursion}
use Rattle.pw_io.specs.Files.{Told, after_put, after_remove, LeavesFile}
use Rattle.pw_store_texts.specs.Names.{IsTextFile}
use Rattle.pw_top_answer.specs.declared.answer.Answer.{Answer}
use Rattle.pw_top_answer.specs.declared.answer.Answer.TheVariants.{ReadFault, WriteFault, StoreFault, NoMemory}
use Rattle.pw_top_answer.specs.Effects.{DonePart, DonePrefix, NamedFile, after_all}
use Rattle.pw_build_files.specs.Genuine.{IsBuiltName}

-- a file is put, or the one of a name is removed
pub data Change : Type 0 where
  Puts : NamedFile → Change
  Removes : List ℕ → Change

abbrev pub after_change : Told → Change → Told
after_change told (Puts file) = after_put told file.0 file.1
after_change told (Removes name) = after_remove told name

-- a store after these changes, in order
abbrev pub after_changes : Told → List Change → Told
after_changes = after_all after_change

-- ---- what stands in the store after an answer

-- The store tells this, or the next change is a put, which was done in part.
abbrev pub IsChanged : Told → List Change → Option Told → Type 0
IsChanged told (Puts file ∷ changes) new = (new ≡ Some told) ⊎ IsSomeAnd new (λ left. (left.puts ≡ told.puts) × LeavesFile told.files left.files file.0 file.1)
IsChanged told changes new = new ≡ Some told

-- a prefix of the changes was made, whole
abbrev pub ChangePrefix : Told → List Change → Option Told → Type 0
ChangePrefix = DonePrefix after_change

-- a prefix of the changes was made, and of a put that follows perhaps a part
abbrev pub ChangePart : Told → List Change → Option Told → Type 0
ChangePart = DonePart after_change IsChanged

-- The changes were made, in order, and no others; where something failed or memory ran out, a prefix of them.
abbrev pub MakesChanges : List Change → Answer → Told → Option Told → Type 0
MakesChanges changes StoreFault told new = ChangePart told changes new
MakesChanges changes ReadFault told new = ChangePrefix told changes new
MakesChanges changes WriteFault told new = ChangePrefix told changes new
MakesChanges changes NoMemory told new = ChangePrefix told changes new
MakesChanges changes _ told new = new ≡ Some (after_changes told changes)

-- a session puts texts, and files of builds, and removes only files that it may
abbrev pub IsOwnChange : (List ℕ → Type 0) → Change → Type 0
IsOwnChange may (Puts file) = IsTextFile file.0 ⊎ IsBuiltName file.0
IsOwnChange may (Removes name) = may name

abbrev pub AreOwnChanges : (List ℕ → Type 0) → List Change → Type 0
AreOwnChanges may changes = AllByRecursion (IsOwnChange may) changes

-- Some of these files were put and removed, whole and in order, and no others; where the store failed, perhaps one more
-- was put in part.
abbrev pub MakesSome : (List ℕ → Type 0) → Answer → Told → Option Told → Type 0
MakesSome may StoreFault told new = (changes : List Change) × AreOwnChanges may changes × ChangePart told changes new
MakesSome may _ told new = (changes : List Change) × AreOwnChanges may changes × (new ≡ Some (after_changes told changes))
