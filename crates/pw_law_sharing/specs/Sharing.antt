-- Registers that functions share: one function saves them, and those below it are free to use them.
use Rattle.std.specs.Prelude.{ℕ, List, Contains}
use Rattle.pw_alloc.specs.declared.located.Located.{Located}
use Rattle.pw_flow.specs.declared.flow.FlowModule.{FlowModule}
use Rattle.pw_summary.specs.declared.summary.Summary.{Summary}
use Rattle.pw_build_objects.specs.Programs.{Parts}
use Rattle.pw_build_opts.specs.declared.opts.Opts.{Opts}
use Rattle.pw_cmean.specs.Worlds.{Program}
use Rattle.pw_db_sound.specs.CallGraphs.{Calls}
use Rattle.pw_db_sound.specs.Sound.{IsFree}
use Rattle.pw_run_agreement.specs.Agreement.{IsDefined}
use Rattle.pw_run_languages.specs.LawfulPrograms.{graph_of}
use Rattle.pw_run_languages.specs.LinkingLaws.{AreObjectsOf, frame_in}
use Rattle.pw_run_languages.specs.Programs.{AreBytes}
use Rattle.pw_law_source.specs.Source.{source_runs}
use Rattle.pw_law_layers.specs.Guarding.{HoldsNothingIn}
use Rattle.pw_law_whole.specs.FromLayers.Whole.{image_of}
use Rattle.pw_law_whole.specs.FromAnalysis.ImageRegisters.{SavedRegistersComeBack}
use Rattle.pw_law_whole.specs.Programs.{AreFormsOf, IsDatabaseOf, Summarise, flows_in, functions_under}

-- In the parts that a program was built to, registers that functions share lose nothing.
pub record SharesSafely (p : Program) (parts : Parts) (opts : Opts) : Type 0 where
  -- the flow graphs of which they are made, and the database of these
  pub forms : List FlowModule
  pub of_program : AreFormsOf opts.optimise p forms
  pub summaries : List Summary
  pub summarise : Summarise forms summaries
  pub database : IsDatabaseOf summaries opts.colours parts.database
  -- the objects have the code of its functions, under the directives of the database and with a place for each temporary
  pub made : AreObjectsOf (flows_in forms parts opts.stack) (functions_under forms parts opts.stack) parts.objects
  -- whoever calls a function that is free to use a register holds nothing in it over a call, neither a global nor a temporary
  pub callers : (f : Located) (callee : List ℕ) (r : ℕ) → Contains (functions_under forms parts opts.stack) f →
      Calls (graph_of (flows_in forms parts opts.stack)) f.body.name callee → IsFree parts.database callee r → HoldsNothingIn f r
  -- and where the program is defined, a function that saves the register for others has in it at its return what it had at its call
  pub roots : (input : List ℕ) → AreBytes input → IsDefined (source_runs p (frame_in (image_of parts.objects opts.stack)) opts.stack input) →
      SavedRegistersComeBack parts.database (image_of parts.objects opts.stack) input
