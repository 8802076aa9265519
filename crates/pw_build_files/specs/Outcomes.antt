-- What a build answers and leaves of the store.
use Rattle.std.specs.Prelude.{◌≡◌, ℕ, List, Option, Some, Result, Ok, Err}
use Rattle.std.specs.List.{AllByRecursion}
use Rattle.sha2.specs.Sha256.{sha256}
use Rattle.pw_io.specs.Files.{Files, Told}
use Rattle.pw_object.specs.declared.object.Object.{Object}
use Rattle.pw_top_answer.specs.declared.answer.Answer.{Answer}
use Rattle.pw_top_answer.specs.declared.answer.Answer.TheVariants as answer
use Rattle.pw_top_answer.specs.Effects.{NamedFile, PutPart, PutsFiles, after_puts}
use Rattle.pw_top_answer.specs.Outcomes.{IsNoRefusal, RefusesAs}
use Rattle.pw_store_modules.specs.Modules.{modules_of}
use Rattle.pw_store_texts.specs.Seen.{IsSeen}
use Rattle.pw_build_files.specs.FromBuild.BuildFault.{BuildFault}
use Rattle.pw_build_files.specs.FromBuild.BuildFault.TheVariants as build
use Rattle.pw_build_files.specs.FromBuild.Unbuilt.{Unbuilt}
use Rattle.pw_build_files.specs.FromBuild.Phases.{IsLine, refused_line}
use Rattle.pw_build_files.specs.declared.report.Report.{Report}
use Rattle.pw_build_opts.specs.declared.opts.Opts.{Opts}
use Rattle.pw_store_kept.specs.declared.prepared.Prepared.{Prepared}
use Rattle.pw_store_kept.specs.Files.{changed_files}
pub use Rattle.pw_build_files.specs.Programs.{CountsAtMost, AnswersFault, FaultCount, HoldsImage, IsNoWant, fault_answer}
use Rattle.pw_build_files.specs.Programs.{IsCounted}
use Rattle.pw_build_files.specs.FromBuild.Builds.{first_phases}
use Rattle.pw_build_files.specs.Building.{BuildOutcome, Outcome, kept_objects, puts_of}
use Rattle.pw_build_files.specs.Seen.{SeenOutcome}
pub use Rattle.pw_build_opts.specs.Options.{AreOpts}
use Rattle.pw_build_files.specs.Genuine.{IsBuiltName}

-- the report of an outcome
pub record Reports (outcome : Outcome) (report : Report) : Type 0 where
  pub modules : report.modules ≡ outcome.modules
  pub rebuilt : report.rebuilt.items ≡ outcome.rebuilt
  pub image : report.image.items ≡ outcome.image
  pub digest : report.digest ≡ sha256 outcome.image
  pub objects : report.objects.items ≡ outcome.linked_objects

abbrev pub build_answer : Result Report Unbuilt → Answer
build_answer (Ok report) = answer.Done
build_answer (Err unbuilt) = fault_answer unbuilt.fault

-- the answer to what a build comes to; a fault of the store and want of memory may come in its place
abbrev pub AnswersBuild : Result Outcome BuildFault → Result Report Unbuilt → Type 0
AnswersBuild comes (Ok report) = (outcome : Outcome) × (comes ≡ Ok outcome) × Reports outcome report
AnswersBuild comes (Err unbuilt) = AnswersFault comes unbuilt.fault

-- The refusal to which a build comes is a command's answer, before the input and the output are touched; want of memory and a
-- fault of the store may come in its place. A build that comes to a program is not refused.
abbrev pub AnswersOutcome : Result Outcome BuildFault → Answer → Type 0
AnswersOutcome (Ok outcome) reply = IsNoRefusal reply
AnswersOutcome (Err fault) reply = RefusesAs (fault_answer fault) reply

-- the build comes to something with that answer, where it is no fault of the store and no want of memory
abbrev pub FaultFound : Files → Opts → BuildFault → Type 0
FaultFound files opts build.StoreFault = Unit {0}
FaultFound files opts build.NoMemory = Unit {0}
FaultFound files opts fault = SeenOutcome files opts (Err fault)

-- what is counted where this fault is answered
abbrev pub CountsFound : Files → Opts → BuildFault → ℕ → ℕ → Type 0
CountsFound files opts fault before now = (shown : Files) → IsSeen files shown → IsCounted (modules_of shown) (kept_objects shown) opts fault before now

abbrev pub IsBuildFound : Files → Opts → Result Report Unbuilt → Type 0
IsBuildFound files opts (Ok report) = (outcome : Outcome) × SeenOutcome files opts (Ok outcome) × Reports outcome report
IsBuildFound files opts (Err unbuilt) = FaultFound files opts unbuilt.fault

-- What a build comes to is what was answered and put; a fault of the store and want of memory may come in its place.
pub record ObeysBuild (opts : Opts) (result : Result Report Unbuilt) (told : Told) (new : Option Told) : Type 0 where
  pub answers : (comes : Result Outcome BuildFault) → SeenOutcome told.files opts comes → AnswersBuild comes result
  pub puts : (comes : Result Outcome BuildFault) → SeenOutcome told.files opts comes → PutsFiles (puts_of comes) (build_answer result) told new
  pub found : IsBuildFound told.files opts result

-- the files have names of a build's
abbrev pub AreBuilt : List NamedFile → Type 0
AreBuilt files = AllByRecursion (λ file. IsBuiltName file.0) files

-- Files of a build were put, whole and in order; where the store failed, of one more perhaps a part; a refusal has put
-- nothing. Every other file has its old bytes.
abbrev pub PutsSome : Answer → Told → Option Told → Type 0
PutsSome answer.StoreFault told new = (files : List NamedFile) × AreBuilt files × PutPart told files new
PutsSome (answer.Refused name refusal) told new = new ≡ Some told
PutsSome (answer.LinkRefused fault) told new = new ≡ Some told
PutsSome _ told new = (files : List NamedFile) × AreBuilt files × (new ≡ Some (after_puts told files))

-- the line of a refused module, where one is refused
abbrev pub IsLineOfBuild : Files → Result Report Unbuilt → Type 0
IsLineOfBuild files (Ok report) = Unit {0}
IsLineOfBuild files (Err unbuilt) = (shown : Files) → IsSeen files shown → IsLine (refused_line (modules_of shown)) unbuilt.fault unbuilt.line

-- what is counted, whatever is answered
abbrev pub CountsSeen : Files → ℕ → ℕ → Type 0
CountsSeen files before now = (shown : Files) → IsSeen files shown → CountsAtMost (first_phases (modules_of shown)) before now

-- ---- inside the build

-- the same as far as the build is one of these files
abbrev pub FaultBuilt : Files → Opts → BuildFault → Type 0
FaultBuilt shown opts build.StoreFault = Unit {0}
FaultBuilt shown opts build.NoMemory = Unit {0}
FaultBuilt shown opts fault = BuildOutcome shown opts (Err fault)

abbrev pub CountsBuilt : Files → Opts → BuildFault → ℕ → ℕ → Type 0
CountsBuilt shown opts fault before now = IsCounted (modules_of shown) (kept_objects shown) opts fault before now

-- a fault of the store, or want of memory
abbrev pub IsOfStore : BuildFault → Type 0
IsOfStore build.StoreFault = Unit {0}
IsOfStore build.NoMemory = Unit {0}
IsOfStore fault = ⊥

-- a build as far as its puts
abbrev pub outcome_of : Prepared → List Object → Outcome
outcome_of p objects = record { modules = p.modules; rebuilt = p.rebuilt.items; image = p.image.items; puts = changed_files p; linked_objects = objects }
