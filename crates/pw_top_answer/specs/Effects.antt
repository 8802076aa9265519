-- What a command comes to where nothing fails, and what may come of it where something does.
use Rattle.std.specs.Prelude.{◌≡◌, ℕ, ◌⊎◌, List, [], ◌∷◌, ◌++◌, Option, Some, IsSomeAnd}
use Rattle.pw_io.specs.Files.{Told, after_put, LeavesFile}
use Rattle.pw_top_answer.specs.declared.answer.Answer.{Answer}
use Rattle.pw_top_answer.specs.declared.answer.Answer.TheVariants.{Done, StoreFault, NoMemory}

-- a file: its name and its bytes
abbrev pub NamedFile : Type 0
NamedFile = List ℕ × List ℕ

-- What a command comes to over the files of a store and an input: its answer, the files that it puts, in order, what it
-- puts out, and what it leaves of the input.
pub record Effect : Type 0 where
  pub answer : Answer
  pub puts : List NamedFile
  pub output : List ℕ
  pub rest : List ℕ

-- it answers so, and neither puts a file nor touches input and output
abbrev pub answers_alone : Answer → List ℕ → Effect
answers_alone answer input = record { answer = answer; puts = []; output = []; rest = input }

-- it puts these files
abbrev pub puts_files : List NamedFile → List ℕ → Effect
puts_files files input = record { answer = Done; puts = files; output = []; rest = input }

-- it puts these bytes out
abbrev pub prints : List ℕ → List ℕ → Effect
prints bytes input = record { answer = Done; puts = []; output = bytes; rest = input }

-- ---- the store after it

-- a store after steps of one kind, in order
abbrev pub after_all : {A : Type 0} → (Told → A → Told) → Told → List A → Told
after_all after told [] = told
after_all after told (step ∷ steps) = after_all after (after told step) steps

-- a prefix of the steps was done, whole
pub record DonePrefix {A : Type 0} (after : Told → A → Told) (told : Told) (steps : List A) (new : Option Told) : Type 0 where
  pub done : List A
  pub more : List A
  pub split : steps ≡ done ++ more
  pub left : new ≡ Some (after_all after told done)

-- a prefix of the steps was done, and of the next perhaps a part
pub record DonePart {A : Type 0} (after : Told → A → Told) (IsPart : Told → List A → Option Told → Type 0) (told : Told) (steps : List A) (new : Option Told) : Type 0 where
  pub done : List A
  pub more : List A
  pub split : steps ≡ done ++ more
  pub left : IsPart (after_all after told done) more new

-- ---- files that are put

abbrev pub after_file : Told → NamedFile → Told
after_file told file = after_put told file.0 file.1

-- a store after these puts
abbrev pub after_puts : Told → List NamedFile → Told
after_puts = after_all after_file

-- The store tells this, or the next of the files that were left to put was put in part.
abbrev pub IsLeft : Told → List NamedFile → Option Told → Type 0
IsLeft told [] new = new ≡ Some told
IsLeft told (file ∷ files) new =
    (new ≡ Some told) ⊎ IsSomeAnd new (λ left. (left.puts ≡ told.puts) × LeavesFile told.files left.files file.0 file.1)

-- a prefix of the files was put, whole
abbrev pub PutPrefix : Told → List NamedFile → Option Told → Type 0
PutPrefix = DonePrefix after_file

-- a prefix of the files was put, and of the next perhaps a part
abbrev pub PutPart : Told → List NamedFile → Option Told → Type 0
PutPart = DonePart after_file IsLeft

-- The files were put, in order, and no others; where the store failed or memory ran out, a prefix of them.
abbrev pub PutsFiles : List NamedFile → Answer → Told → Option Told → Type 0
PutsFiles files StoreFault told new = PutPart told files new
PutsFiles files NoMemory told new = PutPrefix told files new
PutsFiles files _ told new = new ≡ Some (after_puts told files)
