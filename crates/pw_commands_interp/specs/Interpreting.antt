-- What `interp` comes to: a build over the files of a store that puts nothing, and a run of its modules by the meaning of C over an
-- input.
use Rattle.std.specs.Prelude.{◌≡◌, ◌⊎◌, ℕ, Bool, if◌then◌else◌, IfSome, List, [], ◌∷◌, drop, map, Option, Some, None, Result, Ok, Err}
use Rattle.std.specs.FinMap as finite
use Rattle.pw_io.specs.Files.{Files}
use Rattle.pw_cmean.specs.Worlds.{ProgramModule}
use Rattle.pw_cmean.specs.SourceRun.{Run, source_run}
use Rattle.pw_interp_calls.specs.Frames.{frame_among}
use Rattle.pw_link.specs.Linking.{linked}
use Rattle.pw_store_modules.specs.Modules.{Source, module_map, modules_of}
use Rattle.pw_store_texts.specs.Names.{source_name}
use Rattle.pw_store_texts.specs.Seen.{IsSeen}
use Rattle.pw_top_answer.specs.declared.answer.Answer.{Answer}
use Rattle.pw_top_answer.specs.declared.answer.Answer.TheVariants.{NoMemory, Undefined, UndefinedSource}
use Rattle.pw_top_answer.specs.Effects.{Effect, answers_alone}
use Rattle.pw_top_answer.specs.Outcomes.{Answers, LeavesInput, PutsOut}
use Rattle.pw_commands.specs.Outcome.{IsFound}
use Rattle.pw_build_objects.specs.Programs.{Parts}
use Rattle.pw_build_files.specs.FromBuild.BuildFault.{BuildFault}
use Rattle.pw_build_files.specs.FromBuild.Builds.{Builds, FullBuild}
use Rattle.pw_build_files.specs.FromBuild.Phases.{refused_line}
use Rattle.pw_build_files.specs.Building.{kept_objects}
use Rattle.pw_build_files.specs.Driving.{IsBuiltAnswer}
use Rattle.pw_build_files.specs.Outcomes.{fault_answer}
use Rattle.pw_build_opts.specs.declared.opts.RunOpts.{RunOpts}
pub use Rattle.pw_interp_runs.specs.Running.{AreTyped, IsRunAnswer, TellsToken, end_answer, frames_of, token_line}

-- ---- the run

abbrev pub run_effect : Run → List ℕ → Effect
run_effect run input = record { answer = end_answer run.end; puts = []; output = run.out; rest = drop run.read input }

-- What comes of what the build comes to: the modules run, with the frames of the image to which they are linked; or the refusal
-- is told.
abbrev pub InterpOver : Files → RunOpts → List ℕ → Result Parts BuildFault → Effect → Type 0
InterpOver files opts input (Ok parts) effect =
    (modules : List ProgramModule) × AreTyped (modules_of files) modules
    × (effect ≡ run_effect (source_run (record { modules = modules }) (frame_among (frames_of (linked parts.objects opts.build.stack))) opts.build.stack input opts.budget) input)
InterpOver files opts input (Err fault) effect = effect ≡ answers_alone (fault_answer fault) input

-- `interp` over files as they are, and an input
abbrev pub InterpOf : Files → RunOpts → List ℕ → Effect → Type 0
InterpOf files opts input effect =
    (comes : Result Parts BuildFault) × Builds (modules_of files) (kept_objects files) opts.build comes × InterpOver files opts input comes effect

-- over a store's files as a build sees them
abbrev pub PlainEffect : Files → RunOpts → List ℕ → Effect → Type 0
PlainEffect files opts input effect = (shown : Files) × IsSeen files shown × InterpOf shown opts input effect

-- The same over the full build, in which nothing is kept.
abbrev pub PlainInFull : Files → RunOpts → List ℕ → Effect → Type 0
PlainInFull files opts input effect =
    (shown : Files) × IsSeen files shown × (comes : Result Parts BuildFault) × FullBuild (module_map shown) opts.build comes × InterpOver shown opts input comes effect

-- ---- the file in which an undefined operation stands

-- the module of this name has a C source
abbrev pub has_source : Files → List ℕ → Bool
has_source files name = finite.contains_key files (source_name name)

-- an undefined operation in the output of a C source is told of that
abbrev pub told_end : Files → Answer → Answer
told_end files (Undefined operation home token) = if has_source files home then UndefinedSource operation home token else Undefined operation home token
told_end files answer = answer

abbrev pub told_effect : Files → Effect → Effect
told_effect files effect = record { answer = told_end files effect.answer; puts = effect.puts; output = effect.output; rest = effect.rest }

-- `interp` over a store's files and an input
abbrev pub InterpEffect : Files → RunOpts → List ℕ → Effect → Type 0
InterpEffect files opts input effect = (plain : Effect) × PlainEffect files opts input plain × (effect ≡ told_effect files plain)

abbrev pub InterpsInFull : Files → RunOpts → List ℕ → Effect → Type 0
InterpsInFull files opts input effect = (plain : Effect) × PlainInFull files opts input plain × (effect ≡ told_effect files plain)

-- the answer is told so, or memory ran out for it
abbrev pub IsToldEnd : Files → Answer → Answer → Type 0
IsToldEnd files answer told = (told ≡ told_end files answer) ⊎ ((told ≡ NoMemory) × TellsToken answer)

-- the same, whatever the store tells
abbrev pub ToldAny : Answer → Answer → Type 0
ToldAny (Undefined operation home token) told = (told ≡ Undefined operation home token) ⊎ ((told ≡ UndefinedSource operation home token) ⊎ (told ≡ NoMemory))
ToldAny answer told = told ≡ answer

-- ---- what is answered

-- the same, where an operation without a meaning may be told of a C source
abbrev pub IsToldRun : Answer → Type 0
IsToldRun (UndefinedSource operation name token) = Unit {0}
IsToldRun answer = IsRunAnswer answer

-- the answers of the command, which runs its modules then
abbrev pub IsInterpAnswer : Answer → Type 0
IsInterpAnswer = IsBuiltAnswer IsToldRun

-- The command answered, put out and left of its input what it comes to.
pub record DidOf (comes : Effect → Type 0) (input : List ℕ) (answer : Answer) (rest' taken taken' : Option (List ℕ)) : Type 0 where
  pub answers : (effect : Effect) → comes effect → Answers effect.answer answer
  pub output : (effect : Effect) → comes effect → PutsOut effect.output answer taken taken'
  pub rest : (effect : Effect) → comes effect → LeavesInput effect.rest input answer rest'
  pub found : IsFound comes answer

-- over a store's files, before the file of an undefined operation is told
abbrev pub DidPlain : Files → RunOpts → List ℕ → Answer → (rest' taken taken' : Option (List ℕ)) → Type 0
DidPlain files opts input answer rest' taken taken' = DidOf (PlainEffect files opts input) input answer rest' taken taken'

-- and behind that
abbrev pub Did : Files → RunOpts → List ℕ → Answer → (rest' taken taken' : Option (List ℕ)) → Type 0
Did files opts input answer rest' taken taken' = DidOf (InterpEffect files opts input) input answer rest' taken taken'

-- ---- the line

-- the line that an answer tells: on which a module is refused, or on which an undefined operation is met
abbrev pub told_line : List Source → Answer → Option ℕ
told_line sources (Undefined operation name token) = token_line sources name token
told_line sources (UndefinedSource operation name token) = token_line sources name token
told_line sources _ = refused_line sources
