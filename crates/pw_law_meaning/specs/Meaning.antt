-- What an image has to do with the C program that its texts are.
use Rattle.std.specs.Prelude.{ℕ, ◌≢◌, ◌<◌, List, Result, Ok, Err}
use Rattle.pw_summary.specs.declared.summary.Summary.{Summary}
use Rattle.pw_image.specs.declared.image.Image.{Image}
use Rattle.pw_image.specs.Image.{Contents, IsImageFile}
use Rattle.pw_machine.specs.Run.{run_of, start_state}
use Rattle.pw_machine.specs.Start.{image_start}
use Rattle.pw_store_modules.specs.Modules.{Texts}
use Rattle.pw_build_opts.specs.declared.opts.Opts.{Opts}
use Rattle.pw_build_files.specs.FromBuild.BuildFault.{BuildFault}
use Rattle.pw_build_files.specs.Full.{BuildsImage}
use Rattle.pw_cmean.specs.Worlds.{Program}
use Rattle.pw_cmean.specs.Acts.{Wrong}
use Rattle.pw_cmean.specs.SourceRun.{source_run}
use Rattle.pw_run_agreement.specs.Agreement.{Agree, IsDefined, IsMeaningful, SourceRun}
use Rattle.pw_run_languages.specs.Programs.{AreBytes}
use Rattle.pw_run_languages.specs.LinkingLaws.{frame_in}
use Rattle.pw_law_stops.specs.Stops.{Tells}
use Rattle.pw_law_source.specs.Source.{source_runs}
use Rattle.pw_law_whole.specs.FromLayers.Whole.{FramesFit}
use Rattle.pw_law_whole.specs.FromAnalysis.ImageTraffic.{Traffic}
use Rattle.pw_law_whole.specs.FromAnalysis.ImageRegisters.{CallsKeepRegisters}
use Rattle.pw_law_whole.specs.FromAnalysis.ImagePlaces.{GlobalsHavePlaces}
use Rattle.pw_flow.specs.declared.flow.FlowModule.{FlowModule}
use Rattle.pw_run_languages.specs.Programs as flows
use Rattle.pw_law_whole.specs.Programs.{AreFormsOf, DirectivesList, IsDatabaseOf, IsProgramOf, Summarise}

-- the runs of the program on an input, by their bound, each call taking the stack that its function takes in the image
abbrev pub runs_of : Program → Image → ℕ → List ℕ → ℕ → SourceRun
runs_of p image stack input = source_runs p (frame_in image) stack input

-- the flow graphs as a program, each function taking the stack that it takes in the image
abbrev pub flows_of : List FlowModule → Image → ℕ → flows.Program
flows_of forms image stack = record { modules = forms; frame_of = frame_in image; stack = stack }

-- The image means what the texts mean in C.
pub record Means (texts : Texts) (opts : Opts) (bytes : List ℕ) : Type 0 where
  -- the texts are a program, and the bytes the file of an image
  pub program : Program
  pub of_texts : IsProgramOf texts program
  pub contents : Contents Image
  pub file : IsImageFile bytes contents
  -- no run of the program goes wrong in a way that C does not know: what counts as undefined below is what C leaves undefined
  pub sense : (input : List ℕ) → AreBytes input → (bound : ℕ) → (source_run program (frame_in contents.value) opts.stack input bound).end ≢ Wrong
  -- on every input the machine does what the program does, within each bound, up to an undefined operation if the run meets one
  pub agree : (input : List ℕ) → AreBytes input → Agree (runs_of program contents.value opts.stack input) (image_start contents.value.memory) input
  -- so a run of the machine within a budget tells what the program does, where that is defined
  pub tells : (input : List ℕ) → AreBytes input → (budget bound : ℕ) → budget < bound → IsMeaningful (runs_of program contents.value opts.stack input bound).end →
      Tells input (run_of budget (start_state (image_start contents.value.memory) input)) (runs_of program contents.value opts.stack input bound)
  -- no function's frame is larger than its declarations say
  pub fit : FramesFit program contents.value
  -- the flow graphs of which it was made: those of its modules, optimised or not, as the options say
  pub forms : List FlowModule
  pub of_program : AreFormsOf opts.optimise program forms
  -- of the globals that have registers in all their webs, only entries of these load and store them
  pub summaries : List Summary
  pub summarise : Summarise forms summaries
  pub traffic : (input : List ℕ) → AreBytes input → IsDefined (runs_of program contents.value opts.stack input) → Traffic summaries opts.colours contents.value input
  -- the webs that have a register, and the registers that functions share, by function: over each call the registers that a callee
  -- keeps stay as they were, but those of webs in which the function is a member, and those that it is free to use
  pub database : DirectivesList
  pub directives : IsDatabaseOf summaries opts.colours database
  pub registers : (input : List ℕ) → AreBytes input → IsDefined (runs_of program contents.value opts.stack input) → CallsKeepRegisters database contents.value input
  -- at each call and return of the program each global has its value in its place: in memory, in the register of a web, or where
  -- that was saved
  pub places : (input : List ℕ) → AreBytes input → GlobalsHavePlaces program (flows_of forms contents.value opts.stack) database contents.value input

-- of what a full build comes to: an image means what the texts mean; of a fault nothing is said
abbrev pub MeansSo : Texts → Opts → Result (List ℕ) BuildFault → Type 0
MeansSo texts opts (Ok image) = Means texts opts image
MeansSo texts opts (Err fault) = Unit {0}

-- The full build of the texts comes to this image, which means what they mean, or to this fault.
abbrev pub BuildsAndMeans : Texts → Opts → Result (List ℕ) BuildFault → Type 0
BuildsAndMeans texts opts full = BuildsImage texts opts full × MeansSo texts opts full
