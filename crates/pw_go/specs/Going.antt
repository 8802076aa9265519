-- What `go` comes to: a build over the files of a store, and the run of its image over an input.
use Rattle.std.specs.Prelude.{◌≡◌, ℕ, List, Option, Result, Ok, Err}
use Rattle.pw_io.specs.Files.{Files, Told}
use Rattle.pw_image.specs.declared.image.Image.{Image}
use Rattle.pw_image.specs.Image.{Contents, IsImageFile}
use Rattle.pw_machine.specs.Run.{Progress, run_of}
use Rattle.pw_machine.specs.Start.{image_start}
use Rattle.pw_top_answer.specs.declared.answer.Answer.{Answer}
use Rattle.pw_top_answer.specs.declared.answer.Answer.TheVariants.{StoreFault, NoMemory}
use Rattle.pw_top_answer.specs.Effects.{Effect, NamedFile, PutsFiles, answers_alone}
use Rattle.pw_top_answer.specs.Outcomes.{Answers, LeavesInput, PutsOut}
use Rattle.pw_commands.specs.MachineRun.{IsRunAnswer, run_answer, run_output, run_rest, start_state}
use Rattle.pw_build_files.specs.FromBuild.BuildFault.{BuildFault}
use Rattle.pw_build_files.specs.Building.{Outcome, puts_of}
use Rattle.pw_build_files.specs.Driving.{IsBuiltAnswer}
use Rattle.pw_build_files.specs.Seen.{SeenOutcome}
use Rattle.pw_build_files.specs.Outcomes.{AnswersOutcome, fault_answer}
use Rattle.pw_build_opts.specs.declared.opts.Opts.{Opts}
use Rattle.pw_build_opts.specs.declared.opts.RunOpts.{RunOpts}

-- the run of a program over an input, for at most so many instructions
abbrev pub run_from : ℕ → List ℕ → Contents Image → Progress
run_from budget input c = run_of budget (start_state (image_start c.value.memory) input)

-- a run as far as it went, behind the puts of these files
abbrev pub ran_behind : List NamedFile → Progress → Effect
ran_behind puts progress = record { answer = run_answer progress; puts = puts; output = run_output progress; rest = run_rest progress }

-- what comes of what the build comes to: its files are put, and its image is run; or its refusal is told
abbrev pub GoOver : ℕ → List ℕ → Result Outcome BuildFault → Effect → Type 0
GoOver budget input (Ok outcome) effect = (c : Contents Image) × IsImageFile outcome.image c × (effect ≡ ran_behind outcome.puts (run_from budget input c))
GoOver budget input (Err fault) effect = effect ≡ answers_alone (fault_answer fault) input

-- `go` over a store's files and an input
abbrev pub GoEffect : Files → RunOpts → List ℕ → Effect → Type 0
GoEffect files opts input effect =
    (comes : Result Outcome BuildFault) × SeenOutcome files opts.build comes × GoOver opts.budget input comes effect

-- ---- the build, whatever the input tells

-- what holds of each answer but a fault of the store and want of memory
abbrev pub IfMade : Answer → Type 0 → Type 0
IfMade StoreFault P = Unit {0}
IfMade NoMemory P = Unit {0}
IfMade _ P = P

-- What a command did that builds over the files of a store before it does anything else, whatever the input tells. Its build
-- comes to something, unless the store failed or memory ran out; a refusal to which it comes is the answer, and one that comes to
-- a program is not refused; and its files were put, in order.
pub record HasBuilt (opts : Opts) (answer : Answer) (told : Told) (new : Option Told) : Type 0 where
  pub found : IfMade answer ((comes : Result Outcome BuildFault) × SeenOutcome told.files opts comes)
  pub answers : (comes : Result Outcome BuildFault) → SeenOutcome told.files opts comes → AnswersOutcome comes answer
  pub puts : (comes : Result Outcome BuildFault) → SeenOutcome told.files opts comes → PutsFiles (puts_of comes) answer told new

-- ---- answers

-- the answers of the command, which runs its image then
abbrev pub IsGoAnswer : Answer → Type 0
IsGoAnswer = IsBuiltAnswer IsRunAnswer

-- ---- inside

-- The run of the image in this file was answered and put out, and its rest of the input left.
pub record RunsImage (image : List ℕ) (budget : ℕ) (input : List ℕ) (answer : Answer) (input' taken taken' : Option (List ℕ)) : Type 0 where
  pub answers : (c : Contents Image) → IsImageFile image c → Answers (run_answer (run_from budget input c)) answer
  pub output : (c : Contents Image) → IsImageFile image c → PutsOut (run_output (run_from budget input c)) answer taken taken'
  pub rest : (c : Contents Image) → IsImageFile image c → LeavesInput (run_rest (run_from budget input c)) input answer input'
