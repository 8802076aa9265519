-- What `where` comes to: a build over the files of a store, and a look at a call in the run of its image over an input.
use Rattle.std.specs.Prelude.{◌≡◌, ℕ, List, [], Some, Result, Ok, Err}
use Rattle.pw_io.specs.Files.{Files}
use Rattle.pw_object.specs.declared.object.Object.{Object}
use Rattle.pw_image.specs.declared.image.Image.{Image}
use Rattle.pw_image.specs.Image.{Contents, IsImageFile}
use Rattle.pw_machine.specs.Run.{Progress}
use Rattle.pw_debug.specs.declared.info.FrameInfo.{FrameInfo}
use Rattle.pw_debug_frames.specs.Frames.{AreFrames}
use Rattle.pw_where.specs.Calls.{Passes}
use Rattle.pw_where.specs.Looks.{ShowsAt, entries_in, start_over}
use Rattle.pw_top_answer.specs.declared.answer.Answer.{Answer}
use Rattle.pw_top_answer.specs.declared.answer.Answer.TheVariants.{Done, NoFrames}
use Rattle.pw_top_answer.specs.Effects.{Effect, NamedFile, answers_alone}
use Rattle.pw_commands.specs.MachineRun.{IsRunAnswer, run_answer, run_rest}
use Rattle.pw_build_files.specs.FromBuild.BuildFault.{BuildFault}
use Rattle.pw_build_files.specs.Building.{Outcome}
use Rattle.pw_build_files.specs.Driving.{IsBuiltAnswer}
use Rattle.pw_build_files.specs.Seen.{SeenOutcome}
use Rattle.pw_build_files.specs.Outcomes.{fault_answer}
use Rattle.pw_build_opts.specs.declared.opts.RunOpts.{RunOpts}

-- A look at the k-th call, behind the puts of these files. At the call its lines are put out, unless a walk is lost; where
-- the run passes without it, the answer is how it stopped, and nothing is put out.
pub data LookEffect (image : Image) (objects : List Object) (frames : List FrameInfo) (k budget : ℕ) (input : List ℕ) (puts : List NamedFile) : Effect → Type 0 where
  shows : (lines rest : List ℕ) → ShowsAt image objects frames k budget input (Ok lines) (Some rest)
      → LookEffect image objects frames k budget input puts (record { answer = Done; puts = puts; output = lines; rest = rest })
  loses : (address : ℕ) (rest : List ℕ) → ShowsAt image objects frames k budget input (Err address) (Some rest)
      → LookEffect image objects frames k budget input puts (record { answer = NoFrames address; puts = puts; output = []; rest = rest })
  passes : (p : Progress) → Passes (entries_in image objects) (start_over image input) k budget p
      → LookEffect image objects frames k budget input puts (record { answer = run_answer p; puts = puts; output = []; rest = run_rest p })

-- a look at the image in a file, which these objects were linked to, with what is known of their functions
abbrev pub FileEffect : List ℕ → List Object → ℕ → ℕ → List ℕ → List NamedFile → Effect → Type 0
FileEffect bytes objects k budget input puts effect =
    (c : Contents Image) × (frames : List FrameInfo) × IsImageFile bytes c × AreFrames objects frames × LookEffect c.value objects frames k budget input puts effect

-- what comes of what the build comes to: its files are put, and its image is looked at; or its refusal is told
abbrev pub WhereOver : ℕ → ℕ → List ℕ → Result Outcome BuildFault → Effect → Type 0
WhereOver budget k input (Ok outcome) effect = FileEffect outcome.image outcome.linked_objects k budget input outcome.puts effect
WhereOver budget k input (Err fault) effect = effect ≡ answers_alone (fault_answer fault) input

-- `where` over a store's files and an input
abbrev pub WhereEffect : Files → RunOpts → ℕ → List ℕ → Effect → Type 0
WhereEffect files opts k input effect =
    (comes : Result Outcome BuildFault) × SeenOutcome files opts.build comes × WhereOver opts.budget k input comes effect

-- the answers to a look: its lines are put out, a walk is lost, or the run stopped before
abbrev pub IsLookAnswer : Answer → Type 0
IsLookAnswer Done = Unit {0}
IsLookAnswer (NoFrames address) = Unit {0}
IsLookAnswer answer = IsRunAnswer answer

-- the answers of the command, which looks at the run of its image then
abbrev pub IsWhereAnswer : Answer → Type 0
IsWhereAnswer = IsBuiltAnswer IsLookAnswer
