-- What is told of a command's answer: where a module is refused that has a C source, the preprocessor's fault, or that its output is.
use Rattle.std.specs.Prelude.{◌≡◌, ◌⊎◌, ℕ, Bool, true, false, List, Option, Some, None}
use Rattle.pw_io.specs.Files.{Files, Told}
use Rattle.pw_store_modules.specs.Modules.{modules_of}
use Rattle.pw_store_texts.specs.Seen.{IsSeen}
use Rattle.pw_commands_cpp.specs.Telling.{IsToldAnswer, TellsOrFails}
use Rattle.pw_commands_interp.specs.Interpreting.{told_line}
use Rattle.pw_commands_phases.specs.First.{IsPhaseLine}
use Rattle.pw_law_session.specs.FromSession.Bench.{IsBenchLine}
use Rattle.pw_law_session.specs.FromSession.FromBuildFiles.Seen.{IsSeenLine}
use Rattle.pw_top_answer.specs.declared.answer.Answer.{Answer}
use Rattle.pw_top_answer.specs.declared.answer.Answer.TheVariants.{NoMemory}
use Rattle.pw_top_answer.specs.Outcomes.{IsLineDue}
use Rattle.pw_top_words.specs.declared.commands.Command.{Command}
use Rattle.pw_top_words.specs.declared.commands.Command.TheVariants.{Go, Build, PhaseOne, Bench, Where, Interp}
use Rattle.pw_top.specs.Commands.{BuildsFirst, BuildsWhole}
use Rattle.pw_top.specs.Does.{DoesAs}

-- Of a command that builds over the files of the store: what came of the C source of a refused module is told, in whose place a fault of
-- the store and want of memory may come. Every other answer is told as it is.
abbrev pub IsToldBy : Option Command → Files → Answer → Answer → Type 0
IsToldBy (Some (Go opts)) files answer told = TellsOrFails files answer told
IsToldBy (Some (Build opts)) files answer told = TellsOrFails files answer told
IsToldBy (Some (Where k opts)) files answer told = TellsOrFails files answer told
IsToldBy (Some (Interp opts)) files answer told = TellsOrFails files answer told
IsToldBy command files answer told = told ≡ answer

-- the same, whatever the store tells
abbrev pub IsToldFor : Option Command → Answer → Answer → Type 0
IsToldFor (Some (Go opts)) answer told = IsToldAnswer answer told
IsToldFor (Some (Build opts)) answer told = IsToldAnswer answer told
IsToldFor (Some (Where k opts)) answer told = IsToldAnswer answer told
IsToldFor (Some (Interp opts)) answer told = IsToldAnswer answer told
IsToldFor command answer told = told ≡ answer

-- the command builds over the files of the store
abbrev pub builds_files : Command → Bool
builds_files (Go opts) = true
builds_files (Build opts) = true
builds_files (Where k opts) = true
builds_files (Interp opts) = true
builds_files _ = false

-- it does not
abbrev pub IsNoBuilder : Option Command → Type 0
IsNoBuilder (Some (Go opts)) = ⊥
IsNoBuilder (Some (Build opts)) = ⊥
IsNoBuilder (Some (Where k opts)) = ⊥
IsNoBuilder (Some (Interp opts)) = ⊥
IsNoBuilder command = Unit {0}

-- The line of what is told: that on which a module is refused, of the text that a build sees; of `interp` also that on which an operation
-- stands that has no meaning.
abbrev pub IsLineTold : Option Command → Files → Answer → Option ℕ → Type 0
IsLineTold (Some (Go opts)) files answer line = IsSeenLine files answer line
IsLineTold (Some (Build opts)) files answer line = IsSeenLine files answer line
IsLineTold (Some (Where k opts)) files answer line = IsSeenLine files answer line
IsLineTold (Some (Interp opts)) files answer line = (shown : Files) → IsSeen files shown → IsLineDue (told_line (modules_of shown) answer) answer line
IsLineTold (Some (Bench number opts)) files answer line = IsBenchLine number answer line
IsLineTold (Some (PhaseOne name optimise)) files answer line = IsPhaseLine files name answer line
IsLineTold command files answer line = IsLineDue None answer line

-- what the call answered of it: so it was told, or memory ran out for the line
abbrev pub IsAnswered : Option Command → Files → Answer → Answer → Type 0
IsAnswered command files answer result = IsToldBy command files answer result ⊎ (result ≡ NoMemory)

-- The call answered what is told of an answer of the command, which did what this answer says.
pub record AnswersAs (command : Option Command) (result : Answer) (told : Told) (new : Option Told) (input : List ℕ) (input' taken taken' : Option (List ℕ)) : Type 0 where
  pub answer : Answer
  pub answered : IsAnswered command told.files answer result
  pub does : DoesAs command answer told new input input' taken taken'
  pub whole : BuildsWhole command answer told new input input' taken taken'

-- the same of what was built first, whatever the input tells
pub record BuildsAs (command : Option Command) (result : Answer) (told : Told) (new : Option Told) : Type 0 where
  pub answer : Answer
  pub answered : IsAnswered command told.files answer result
  pub built : BuildsFirst command answer told new
