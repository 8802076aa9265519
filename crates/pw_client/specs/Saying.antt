-- What a caller of `go` knows of the program `hello`, before it runs.
use Rattle.std.specs.Prelude.{◌≡◌, ℕ, List, [], ◌∷◌, ◌++◌, Option}
use Rattle.pw_io.specs.Files.{Files}
use Rattle.pw_io.specs.Streams.{Appends}
use Rattle.pw_store_modules.specs.Modules.{modules_of}
use Rattle.pw_store_texts.specs.Seen.{IsSeen}
use Rattle.pw_top_answer.specs.declared.answer.Answer.{Answer}
use Rattle.pw_top_answer.specs.declared.answer.Answer.TheVariants.{Done, Ended, Usage, Refused, RefusedSource, Cpp, StackStop, Halted, NoMemory, BadFile, BadScript, NoFrames, Undefined, UndefinedSource}
use Rattle.pw_hello.specs.Hello.{hello_name, hello_output, hello_text}

-- the only module of the files is `hello`
abbrev pub IsHello : Files → Type 0
IsHello files = modules_of files ≡ (hello_name, hello_text) ∷ []

-- so it is of the files as a build sees them
abbrev pub HoldsHello : Files → Type 0
HoldsHello files = (shown : Files) → IsSeen files shown → IsHello shown

-- a prefix of "Hi" was put out
abbrev pub PutsPrefix : Option (List ℕ) → Option (List ℕ) → Type 0
PutsPrefix taken taken' = (first more : List ℕ) × (hello_output ≡ first ++ more) × Appends taken taken' first

-- The image ran: it put out "Hi" and ended with the status 0; or the budget was spent, and it put out a prefix of that. It did
-- not halt, it did not stop for want of stack, and the module was not refused. After a fault, or where linking refused, a prefix
-- was put out too; of want of memory nothing is said.
abbrev pub SaysHi : Answer → Option (List ℕ) → Option (List ℕ) → Type 0
SaysHi (Ended status) taken taken' = (status ≡ 0) × Appends taken taken' hello_output
SaysHi NoMemory taken taken' = Unit {0}
SaysHi Done taken taken' = ⊥
SaysHi Usage taken taken' = ⊥
SaysHi (Refused name refusal) taken taken' = ⊥
SaysHi (RefusedSource name refusal) taken taken' = ⊥
SaysHi (Cpp fault) taken taken' = ⊥
SaysHi StackStop taken taken' = ⊥
SaysHi (Halted halt at) taken taken' = ⊥
SaysHi (BadFile name at) taken taken' = ⊥
SaysHi (BadScript at) taken taken' = ⊥
SaysHi (NoFrames address) taken taken' = ⊥
SaysHi (Undefined operation home token) taken taken' = ⊥
SaysHi (UndefinedSource operation home token) taken taken' = ⊥
SaysHi _ taken taken' = PutsPrefix taken taken'
