-- What a command that builds answers, puts out and leaves where the kept objects were genuine: what the full build of the
-- modules comes to, in which nothing is kept.
use Rattle.std.specs.Prelude.{◌≡◌, ℕ, List, [], Option, Result, Ok, Err}
use Rattle.pw_io.specs.Files.{Files, Told}
use Rattle.pw_image.specs.declared.image.Image.{Image}
use Rattle.pw_image.specs.Image.{Contents, IsImageFile}
use Rattle.pw_store_modules.specs.Modules.{module_map}
use Rattle.pw_store_texts.specs.Seen.{IsSeen}
use Rattle.pw_top_answer.specs.declared.answer.Answer.{Answer}
use Rattle.pw_top_answer.specs.declared.answer.Answer.TheVariants.{Done}
use Rattle.pw_top_answer.specs.Effects.{Effect}
use Rattle.pw_top_answer.specs.Outcomes.{Answers, LeavesInput, PutsOut}
use Rattle.pw_build_opts.specs.declared.opts.Opts.{Opts}
use Rattle.pw_build_opts.specs.declared.opts.RunOpts.{RunOpts}
use Rattle.pw_law_session.specs.FromSession.FromBuild.BuildFault.{BuildFault}
use Rattle.pw_law_session.specs.FromSession.FromBuildFiles.Building.{Outcome}
use Rattle.pw_law_session.specs.FromMeaning.Meaning.{BuildsAndMeans}
use Rattle.pw_law_session.specs.FromSession.FromBuildFiles.Outcomes.{fault_answer}
use Rattle.pw_commands.specs.MachineRun.{run_answer, run_output, run_rest}
use Rattle.pw_law_session.specs.FromSession.FromBuildFiles.Driving.{outcome_lines}
use Rattle.pw_go.specs.Going.{run_from}
use Rattle.pw_commands_interp.specs.Interpreting.{InterpsInFull}
pub use Rattle.pw_go.specs.Going.{IfMade}
use Rattle.pw_law_session.specs.Full.{BenchBuildsInFull}
use Rattle.pw_law_session.specs.Whole.{LeavesFull}

-- the refusal of the full build is told, and nothing is put out
abbrev pub TellsRefusal : BuildFault → Answer → (taken taken' : Option (List ℕ)) → Type 0
TellsRefusal fault answer taken taken' = Answers (fault_answer fault) answer × PutsOut [] answer taken taken'

-- The lines of the report are of the full build's image; a fault of the output may come in the place of the answer.
abbrev pub ReportsFull : Result (List ℕ) BuildFault → Answer → (taken taken' : Option (List ℕ)) → Type 0
ReportsFull (Ok image) answer taken taken' = (outcome : Outcome) × (outcome.image ≡ image) × Answers Done answer × PutsOut (outcome_lines outcome) answer taken taken'
ReportsFull (Err fault) answer taken taken' = TellsRefusal fault answer taken taken'

-- The answer, what is put out and what is left of the input are those of the run of the full build's image.
abbrev pub RunsFull : ℕ → List ℕ → Result (List ℕ) BuildFault → Answer → (input' taken taken' : Option (List ℕ)) → Type 0
RunsFull budget input (Ok image) answer input' taken taken' =
    (c : Contents Image) × IsImageFile image c × Answers (run_answer (run_from budget input c)) answer × PutsOut (run_output (run_from budget input c)) answer taken taken' × LeavesInput (run_rest (run_from budget input c)) input answer input'
RunsFull budget input (Err fault) answer input' taken taken' = TellsRefusal fault answer taken taken'

-- The line, or the refusal, of `bench` is of the full build of the texts that are made from the number.
abbrev pub BenchesFull : ℕ → RunOpts → List ℕ → Answer → (taken taken' : Option (List ℕ)) → Type 0
BenchesFull number opts input answer taken taken' =
    (effect : Effect) × BenchBuildsInFull number opts input effect × Answers effect.answer answer × PutsOut effect.output answer taken taken'

-- The full build of the modules, as a build sees them, comes to an image, which means what they mean in C, or to a fault, of which this holds, and the
-- files are left so.
abbrev pub ComesInFull : Opts → Told → Option Told → (Result (List ℕ) BuildFault → Type 0) → Type 0
ComesInFull opts told new P =
    (shown : Files) × IsSeen told.files shown × (full : Result (List ℕ) BuildFault) × BuildsAndMeans (module_map shown) opts full × P full × LeavesFull (module_map shown) opts full told new

-- The answer, what is put out and what is left of the input are those to which a run of the modules by the meaning of C comes, with
-- the frames of the full build's image, or they tell that build's refusal.
abbrev pub InterpretsFull : Files → RunOpts → List ℕ → Answer → (input' taken taken' : Option (List ℕ)) → Type 0
InterpretsFull files opts input answer input' taken taken' =
    (effect : Effect) × InterpsInFull files opts input effect × Answers effect.answer answer × PutsOut effect.output answer taken taken' × LeavesInput effect.rest input answer input'
