-- What a command that needs no input answers and leaves of the store.
use Rattle.std.specs.Prelude.{◌≡◌, ◌≢◌, ℕ, List, Option, Result, Ok, Err}
use Rattle.pw_io.specs.Files.{Told}
use Rattle.pw_value.specs.declared.fault.LinkFault.TheVariants as link
use Rattle.pw_top_answer.specs.declared.answer.Answer.{Answer}
use Rattle.pw_top_answer.specs.declared.answer.Answer.TheVariants.{Done, LinkRefused, ReadFault, WriteFault, StoreFault, NoMemory, BadFile}
use Rattle.pw_top_answer.specs.Effects.{Effect, PutsFiles}
use Rattle.pw_top_answer.specs.Outcomes.{Answers, StoreCount}

-- the answers of a command that touches the store alone; a refusal is none for want of memory
abbrev pub IsStoreAnswer : Answer → Type 0
IsStoreAnswer Done = Unit {0}
IsStoreAnswer (LinkRefused fault) = fault ≢ link.NoMemory
IsStoreAnswer StoreFault = Unit {0}
IsStoreAnswer NoMemory = Unit {0}
IsStoreAnswer (BadFile name at) = Unit {0}
IsStoreAnswer _ = ⊥

-- the answers that stand in place of a value: those but `Done`
abbrev pub IsStop : Answer → Type 0
IsStop (LinkRefused fault) = fault ≢ link.NoMemory
IsStop StoreFault = Unit {0}
IsStop NoMemory = Unit {0}
IsStop (BadFile name at) = Unit {0}
IsStop _ = ⊥

-- those that stand in place of what a file holds
abbrev pub IsFileStop : Answer → Type 0
IsFileStop StoreFault = Unit {0}
IsFileStop NoMemory = Unit {0}
IsFileStop (BadFile name at) = Unit {0}
IsFileStop _ = ⊥

-- The command comes to something, also where its input or output had a fault then; with that answer, where it is no fault.
-- A fault of the store and want of memory may come before.
abbrev pub IsFound : (Effect → Type 0) → Answer → Type 0
IsFound comes ReadFault = (effect : Effect) × comes effect
IsFound comes WriteFault = (effect : Effect) × comes effect
IsFound comes StoreFault = Unit {0}
IsFound comes NoMemory = Unit {0}
IsFound comes answer = (effect : Effect) × comes effect × (effect.answer ≡ answer)

-- what a command comes to is what was answered and put; a fault of the store and want of memory may come in its place
pub record Obeys (comes : Effect → Type 0) (answer : Answer) (told : Told) (new : Option Told) : Type 0 where
  pub answers : (effect : Effect) → comes effect → Answers effect.answer answer
  pub puts : (effect : Effect) → comes effect → PutsFiles effect.puts answer told new
  pub found : IsFound comes answer

-- a store's count of faults, where a value or an answer in its place came
abbrev pub StopCount : {T : Type 0} → ℕ → ℕ → Result T Answer → Type 0
StopCount before now (Ok value) = now ≡ before
StopCount before now (Err answer) = StoreCount before now answer

-- the answers of a put
abbrev pub IsPutAnswer : Answer → Type 0
IsPutAnswer Done = Unit {0}
IsPutAnswer StoreFault = Unit {0}
IsPutAnswer NoMemory = Unit {0}
IsPutAnswer _ = ⊥
