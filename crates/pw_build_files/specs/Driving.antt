-- What the command `build` comes to, and what it leaves alone.
use Rattle.std.specs.Prelude.{◌≡◌, ◌≢◌, ◌≤◌, ℕ, List, [], ◌++◌, length, Option, IsSomeAnd, Result, Ok, Err}
use Rattle.std.specs.List.{AllByRecursion}
use Rattle.sha2.specs.Sha256.{sha256}
use Rattle.pw_io.specs.Files.{Files, Told}
use Rattle.pw_value.specs.declared.fault.LinkFault.TheVariants as link
use Rattle.pw_front_end.specs.Fronts.{HoldsNoWant}
use Rattle.pw_top_answer.specs.declared.answer.Answer.{Answer}
use Rattle.pw_top_answer.specs.declared.answer.Answer.TheVariants.{Done, Refused, LinkRefused, StoreFault}
use Rattle.pw_top_answer.specs.Effects.{Effect, answers_alone}
use Rattle.pw_top_answer.specs.Outcomes.{IsPrintAnswer}
use Rattle.pw_build_files.specs.FromBuild.BuildFault.{BuildFault}
use Rattle.pw_build_files.specs.Building.{Outcome}
use Rattle.pw_build_files.specs.Seen.{SeenOutcome}
use Rattle.pw_build_files.specs.Genuine.{IsBuiltName}
use Rattle.pw_build_files.specs.Lines.{report_lines}
use Rattle.pw_build_files.specs.Outcomes.{fault_answer}
use Rattle.pw_commands.specs.Others.{IsSameBut}
use Rattle.pw_build_opts.specs.declared.opts.Opts.{Opts}

-- ---- what the command comes to

-- the two lines of a build's report
abbrev pub outcome_lines : Outcome → List ℕ
outcome_lines outcome = report_lines (length outcome.rebuilt) outcome.modules (length outcome.image) (sha256 outcome.image)

-- A build is done, its files are put and its two lines put out; a refusal is told.
abbrev pub built_effect : Result Outcome BuildFault → List ℕ → Effect
built_effect (Ok outcome) input = record { answer = Done; puts = outcome.puts; output = outcome_lines outcome; rest = input }
built_effect (Err fault) input = answers_alone (fault_answer fault) input

-- `build` over a store's files, for so many registers and such a stack
abbrev pub BuildEffect : Files → Opts → List ℕ → Effect → Type 0
BuildEffect files opts input effect =
    (comes : Result Outcome BuildFault) × SeenOutcome files opts comes × (effect ≡ built_effect comes input)

-- The answers of a command that builds before it does anything else: why its build came to no program, where no refusal is one for
-- want of memory, or what it may answer then.
abbrev pub IsBuiltAnswer : (Answer → Type 0) → Answer → Type 0
IsBuiltAnswer IsThen (Refused name refusal) = HoldsNoWant refusal
IsBuiltAnswer IsThen (LinkRefused fault) = fault ≢ link.NoMemory
IsBuiltAnswer IsThen StoreFault = Unit {0}
IsBuiltAnswer IsThen answer = IsThen answer

-- those of the command `build`, which prints a report then
abbrev pub IsBuildAnswer : Answer → Type 0
IsBuildAnswer = IsBuiltAnswer IsPrintAnswer

-- ---- what it leaves alone

-- The store tells the names that were put besides, all of a build, and every file has its old bytes, or is absent as
-- before, but those of these names and, where the store failed, perhaps of one more, whose put failed.
pub record Unput (answer : Answer) (told left : Told) : Type 0 where
  pub put : List (List ℕ)
  pub failed : List (List ℕ)
  pub own : AllByRecursion IsBuiltName (put ++ failed)
  pub one : length failed ≤ 1
  pub none : answer ≢ StoreFault → failed ≡ []
  pub told_so : left.puts ≡ told.puts ++ put
  pub same : IsSameBut (put ++ failed) told.files left.files

abbrev pub KeepsUnput : Answer → Told → Option Told → Type 0
KeepsUnput answer told new = IsSomeAnd new (Unput answer told)
