-- `bench`: a made program is built over a store that holds nothing else, and run, and one line says what came of it.
use Rattle.std.specs.Prelude.{◌≡◌, ◌≢◌, ℕ, ◌+◌, ◌*◌, true, List, [], ◌∷◌, ◌++◌, codes, length, reverse, Option, Result, Ok, Err}
use Rattle.std.specs.Fmt.{decimal}
use Rattle.std.specs.FinMap as finite
use Rattle.pw_fields.specs.Fields.{parts}
use Rattle.pw_value.specs.declared.fault.LinkFault.TheVariants as link
use Rattle.pw_front_end.specs.Fronts.{HoldsNoWant}
use Rattle.hex.specs.Hex.{encode_lower}
use Rattle.sha2.specs.Sha256.{sha256}
use Rattle.pw_io.specs.Files.{Files}
use Rattle.pw_image.specs.declared.image.Image.{Image}
use Rattle.pw_image.specs.Image.{Contents, IsImageFile}
use Rattle.pw_machine.specs.Start.{image_start}
use Rattle.pw_top_answer.specs.declared.answer.Answer.{Answer}
use Rattle.pw_top_answer.specs.declared.answer.Answer.TheVariants.{Done, Refused, LinkRefused, WriteFault, NoMemory}
use Rattle.pw_top_answer.specs.Effects.{Effect, answers_alone, prints}
use Rattle.pw_top_answer.specs.Outcomes.{Answers, PutsOut}
use Rattle.pw_gen.specs.Generator.{functions_of_a_module, generated}
use Rattle.pw_build_files.specs.FromBuild.BuildFault.{BuildFault}
use Rattle.pw_build_files.specs.Seen.{IsSeenLine}
use Rattle.pw_build_files.specs.Building.{Outcome}
use Rattle.pw_build_files.specs.Outcomes.{fault_answer}
use Rattle.pw_commands.specs.MachineRun.{run_answer}
use Rattle.pw_build_opts.specs.declared.opts.RunOpts.{RunOpts}
use Rattle.pw_session.specs.Builds.{BuildsTo}
use Rattle.pw_session.specs.Runs.{is_stop, runs_as, stop_text}

-- how many modules are made beside the main
abbrev pub bench_modules : ℕ
bench_modules = 64

-- the files of the program of so many modules that is made from a number, whose names all differ
unfoldable pub made_files : ℕ → ℕ → Files
made_files number modules = finite.from_entries (reverse (generated number modules))

abbrev pub bench_files : ℕ → Files
bench_files number = made_files number bench_modules

-- how many functions the program has: those of the modules, and the main
abbrev pub bench_functions : ℕ
bench_functions = bench_modules * functions_of_a_module + 1

-- the front of the line: the number, how many modules and functions there are, the bytes of the image and the digits of its digest
abbrev pub bench_prefix : ℕ → ℕ → ℕ → List ℕ → List ℕ
bench_prefix number modules size digits = parts
    (codes "bench " ∷ decimal number ∷ codes " modules " ∷ decimal modules ∷ codes " functions " ∷ decimal bench_functions ∷ codes " image " ∷ decimal size ∷ codes " "
    ∷ digits ∷ codes " stop " ∷ [])

-- the line, which ends with how the run stopped
abbrev pub bench_line : ℕ → List ℕ → List ℕ → Answer → List ℕ
bench_line number image digest stop = bench_prefix number (bench_modules + 1) (length image) (encode_lower digest) ++ stop_text stop ++ codes "\n"

-- how the run of a program over no input stops, as an answer
abbrev pub stop_of : ℕ → Contents Image → Answer
stop_of budget c = run_answer (runs_as budget [] (image_start c.value.memory))

-- the line of a program that was built: that of its image's run over no input
abbrev pub IsBenchText : ℕ → ℕ → List ℕ → List ℕ → Type 0
IsBenchText number budget image text = (c : Contents Image) × IsImageFile image c × (text ≡ bench_line number image (sha256 image) (stop_of budget c))

-- what comes of what a build over the files comes to: the line is put out, or the refusal is told
abbrev pub BenchOver : ℕ → ℕ → List ℕ → Result Outcome BuildFault → Effect → Type 0
BenchOver number budget input (Ok outcome) effect = (text : List ℕ) × IsBenchText number budget outcome.image text × (effect ≡ prints text input)
BenchOver number budget input (Err fault) effect = effect ≡ answers_alone (fault_answer fault) input

-- what `bench` with a number comes to
abbrev pub BenchEffect : ℕ → RunOpts → List ℕ → Effect → Type 0
BenchEffect number opts input effect =
    (comes : Result Outcome BuildFault) × BuildsTo (bench_files number) opts.build comes × BenchOver number opts.budget input comes effect

-- It comes to something, also where the output had a fault then; with that answer, where it is none. Want of memory may come
-- before.
abbrev pub IsBenchFound : (Effect → Type 0) → Answer → Type 0
IsBenchFound comes WriteFault = (effect : Effect) × comes effect
IsBenchFound comes NoMemory = Unit {0}
IsBenchFound comes answer = (effect : Effect) × comes effect × (effect.answer ≡ answer)

-- What `bench` comes to is what was answered and put out; a fault of the output and want of memory may come in its place.
pub record ObeysBench (comes : Effect → Type 0) (answer : Answer) (taken taken' : Option (List ℕ)) : Type 0 where
  pub answers : (effect : Effect) → comes effect → Answers effect.answer answer
  pub output : (effect : Effect) → comes effect → PutsOut effect.output answer taken taken'
  pub found : IsBenchFound comes answer

-- the answers of `bench`, whose refusals are none for want of memory
abbrev pub IsBenchAnswer : Answer → Type 0
IsBenchAnswer Done = Unit {0}
IsBenchAnswer (Refused name refusal) = HoldsNoWant refusal
IsBenchAnswer (LinkRefused fault) = fault ≢ link.NoMemory
IsBenchAnswer WriteFault = Unit {0}
IsBenchAnswer NoMemory = Unit {0}
IsBenchAnswer _ = ⊥

-- the line on which a module is refused, where one is
abbrev pub IsBenchLine : ℕ → Answer → Option ℕ → Type 0
IsBenchLine number answer line = IsSeenLine (bench_files number) answer line

-- ---- inside

-- the answer to the run of an image over no input
pub record StopsWithoutInput (image : List ℕ) (budget : ℕ) (answer : Answer) : Type 0 where
  pub each : (c : Contents Image) → IsImageFile image c → Answers (stop_of budget c) answer
  pub found : is_stop answer ≡ true → (c : Contents Image) × IsImageFile image c

-- the line of a program that was built, with this digest, was put out
pub record ObeysReport (number : ℕ) (image digest : List ℕ) (budget : ℕ) (answer : Answer) (taken taken' : Option (List ℕ)) : Type 0 where
  pub output : (c : Contents Image) → IsImageFile image c → PutsOut (bench_line number image digest (stop_of budget c)) answer taken taken'
  pub found : answer ≢ NoMemory → (c : Contents Image) × IsImageFile image c
