-- What an answer says of what was put out, of the input, the faults and the line.
use Rattle.std.specs.Prelude.{◌≡◌, ℕ, ◌⊎◌, List, [], ◌++◌, Option, Some, IfSome, IsSomeAnd}
use Rattle.pw_io.specs.Faults.{Rose}
use Rattle.pw_io.specs.declared.StoreError.{StoreError}
use Rattle.pw_io.specs.declared.StoreError.TheVariants as store
use Rattle.pw_io.specs.Streams.{Appends}
use Rattle.pw_value.specs.declared.fault.LinkFault.TheVariants.{TooMany}
use Rattle.pw_value.specs.declared.fault.What.TheVariants.{Modules}
use Rattle.pw_store_modules.specs.declared.few.ModulesFault.{ModulesFault}
use Rattle.pw_store_modules.specs.declared.few.ModulesFault.TheVariants as modules
use Rattle.pw_top_answer.specs.declared.answer.Answer.{Answer}
use Rattle.pw_top_answer.specs.declared.answer.Answer.TheVariants.{Done, Ended, Usage, Refused, LinkRefused, StackStop, Spent, Halted, ReadFault, WriteFault, StoreFault, NoMemory, BadFile, BadScript, NoFrames, RefusedSource, Cpp, Undefined, UndefinedSource}
use Rattle.pw_top_answer.specs.Answers.{line_text, NeedsMemory}

-- ---- what the call answers: what is wanted; a fault and want of memory may come in its place

abbrev pub Answers : Answer → Answer → Type 0
Answers wanted Done = wanted ≡ Done
Answers wanted (Ended status) = wanted ≡ Ended status
Answers wanted Usage = wanted ≡ Usage
Answers wanted (Refused name refusal) = wanted ≡ Refused name refusal
Answers wanted (RefusedSource name refusal) = wanted ≡ RefusedSource name refusal
Answers wanted (Cpp fault) = wanted ≡ Cpp fault
Answers wanted (LinkRefused fault) = wanted ≡ LinkRefused fault
Answers wanted StackStop = wanted ≡ StackStop
Answers wanted Spent = wanted ≡ Spent
Answers wanted (Halted halt at) = wanted ≡ Halted halt at
Answers wanted ReadFault = Unit {0}
Answers wanted WriteFault = Unit {0}
Answers wanted StoreFault = Unit {0}
Answers wanted NoMemory = Unit {0}
Answers wanted (BadFile name at) = wanted ≡ BadFile name at
Answers wanted (BadScript at) = wanted ≡ BadScript at
Answers wanted (NoFrames address) = wanted ≡ NoFrames address
Answers wanted (Undefined operation name token) = wanted ≡ Undefined operation name token
Answers wanted (UndefinedSource operation name token) = wanted ≡ UndefinedSource operation name token

-- the answer refuses nothing
abbrev pub IsNoRefusal : Answer → Type 0
IsNoRefusal (Refused name refusal) = ⊥
IsNoRefusal (RefusedSource name refusal) = ⊥
IsNoRefusal (Cpp fault) = ⊥
IsNoRefusal (LinkRefused fault) = ⊥
IsNoRefusal (BadFile name at) = ⊥
IsNoRefusal (BadScript at) = ⊥
IsNoRefusal _ = Unit {0}

-- A refusal comes before the input and the output are touched, so that only the store may have a fault.
abbrev pub RefusesAs : Answer → Answer → Type 0
RefusesAs refusal ReadFault = ⊥
RefusesAs refusal WriteFault = ⊥
RefusesAs refusal answer = Answers refusal answer

-- the line, where the answer names a module
abbrev pub IsLineDue : Option ℕ → Answer → Option ℕ → Type 0
IsLineDue due (Refused name refusal) line = line ≡ due
IsLineDue due (RefusedSource name refusal) line = line ≡ due
IsLineDue due (Undefined operation name token) line = line ≡ due
IsLineDue due (UndefinedSource operation name token) line = line ≡ due
IsLineDue due _ line = Unit {0}

-- ---- what it puts out

-- nothing is left of the output, unless a fault or want of memory came
abbrev pub IsWhole : Answer → List ℕ → Type 0
IsWhole ReadFault more = Unit {0}
IsWhole WriteFault more = Unit {0}
IsWhole StoreFault more = Unit {0}
IsWhole NoMemory more = Unit {0}
IsWhole _ more = more ≡ []

-- The output is a prefix of what is wanted, and all of it where nothing fails.
pub record PutsOut (wanted : List ℕ) (answer : Answer) (old new : Option (List ℕ)) : Type 0 where
  pub output : List ℕ
  pub more : List ℕ
  pub taken : Appends old new output
  pub front : wanted ≡ output ++ more
  pub whole : IsWhole answer more

-- ---- what it leaves of the input

-- Some prefix of the input was read, no more of it than the run reads, and the source tells what is behind it.
abbrev pub WasReadInPart : List ℕ → List ℕ → Option (List ℕ) → Type 0
WasReadInPart wanted input new =
    (front : List ℕ) × (more : List ℕ) × IsSomeAnd new (λ left. (input ≡ front ++ left) × (left ≡ more ++ wanted))

-- The source tells what the run left of the input; where a fault or want of memory came, some prefix was read.
abbrev pub LeavesInput : List ℕ → List ℕ → Answer → Option (List ℕ) → Type 0
LeavesInput wanted input ReadFault new = WasReadInPart wanted input new
LeavesInput wanted input WriteFault new = WasReadInPart wanted input new
LeavesInput wanted input StoreFault new = WasReadInPart wanted input new
LeavesInput wanted input NoMemory new = WasReadInPart wanted input new
LeavesInput wanted input _ new = new ≡ Some wanted

-- ---- faults: a fault is answered only where that object's count rose, and every other answer leaves the counts

abbrev pub StoreCount : ℕ → ℕ → Answer → Type 0
StoreCount before now StoreFault = Rose before now
StoreCount before now _ = now ≡ before

abbrev pub InputCount : ℕ → ℕ → Answer → Type 0
InputCount before now ReadFault = Rose before now
InputCount before now _ = now ≡ before

abbrev pub OutputCount : ℕ → ℕ → Answer → Type 0
OutputCount before now WriteFault = Rose before now
OutputCount before now _ = now ≡ before

-- what a call of a store that did not do what it was asked is answered
abbrev pub store_answer : StoreError → Answer
store_answer store.Failed = StoreFault
store_answer store.NoMemory = NoMemory

-- what a call that did not tell the modules of a store is answered
abbrev pub modules_answer : ModulesFault → Answer
modules_answer (modules.TooMany count) = LinkRefused (TooMany Modules count)
modules_answer (modules.Store error) = store_answer error

-- ---- what only puts out

-- the answers of what only puts out
abbrev pub IsPrintAnswer : Answer → Type 0
IsPrintAnswer Done = Unit {0}
IsPrintAnswer WriteFault = Unit {0}
IsPrintAnswer NoMemory = Unit {0}
IsPrintAnswer _ = ⊥

-- ---- the line that is told

-- The line was told, or a prefix of it where the sink's count of faults rose.
abbrev pub Tells : List ℕ → Option (List ℕ) → Option (List ℕ) → ℕ → ℕ → Type 0
Tells line old new before now =
    IfSome new (λ after. IsSomeAnd old (λ first. (told : List ℕ) × (more : List ℕ) × (line ≡ told ++ more) × (after ≡ first ++ told) × ((more ≡ []) ⊎ Rose before now)))

-- ---- the answer that is told is the answer, or want of memory for its line

abbrev pub ToldAs : Answer → Answer → Type 0
ToldAs answer told = (told ≡ answer) ⊎ (NeedsMemory answer × (told ≡ NoMemory))

-- What is told of an answer, whatever the store tells: its line, with some number or none where a module is refused.
abbrev pub TellsSome : Answer → Option (List ℕ) → Option (List ℕ) → ℕ → ℕ → Type 0
TellsSome answer old new before now = (line : Option ℕ) × Tells (line_text line answer) old new before now

-- A refusal, a file that is bad, a fault of the store and a wrong command line leave what the input and the output tell as it was.
abbrev pub LeavesStreams : Answer → (input input' output output' : Option (List ℕ)) → Type 0
LeavesStreams Usage input input' output output' = (input' ≡ input) × (output' ≡ output)
LeavesStreams (Refused name refusal) input input' output output' = (input' ≡ input) × (output' ≡ output)
LeavesStreams (RefusedSource name refusal) input input' output output' = (input' ≡ input) × (output' ≡ output)
LeavesStreams (Cpp fault) input input' output output' = (input' ≡ input) × (output' ≡ output)
LeavesStreams (LinkRefused fault) input input' output output' = (input' ≡ input) × (output' ≡ output)
LeavesStreams (BadFile name at) input input' output output' = (input' ≡ input) × (output' ≡ output)
LeavesStreams StoreFault input input' output output' = (input' ≡ input) × (output' ≡ output)
LeavesStreams _ input input' output output' = Unit {0}
