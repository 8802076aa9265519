-- The program of a full build's texts, and its parts as the layers between C and words see them.
use Rattle.std.specs.Prelude.{◌≡◌, ℕ, Bool, List, [], ◌∷◌, map, Ok}
use Rattle.std.specs.List.{AllByRecursion}
use Rattle.std.specs.FinMap as finite
use Rattle.pw_front_end.specs.Fronts.{HasTree}
use Rattle.pw_tree.specs.Trees.{Module}
use Rattle.pw_check_rules.specs.Checks.{Checks}
use Rattle.pw_store_modules.specs.Modules.{Source, Texts}
use Rattle.pw_alloc.specs.declared.located.Located.{Located}
use Rattle.pw_summary.specs.declared.summary.Summary.{Summary}
use Rattle.pw_flow.specs.declared.flow.FlowModule.{FlowModule}
use Rattle.pw_lower.specs.Modules.{lowered}
use Rattle.pw_build_objects.specs.Programs.{AreForms, AreSummariesOf, Parts}
use Rattle.pw_build_opts.specs.declared.opts.Opts.{Opts}
pub use Rattle.pw_build_objects.specs.Programs.{DirectivesList}
pub use Rattle.pw_colour.specs.Colours.{IsDatabaseOf}
use Rattle.pw_run_languages.specs.Programs as flows
use Rattle.pw_run_languages.specs.Programs.{AreBytes}
use Rattle.pw_run_languages.specs.LinkingLaws.{frame_in}
use Rattle.pw_cmean.specs.Worlds.{Program, ProgramModule}
use Rattle.pw_law_temps.specs.Laws.{allocated_functions}
use Rattle.pw_law_source.specs.Accepting.{HasNoColon, IsWhole}
use Rattle.pw_law_source.specs.Lowering.{AreChecked, LoweringKeepsRuns}
use Rattle.pw_law_layers.specs.Whole.{image_of, IsLaidOut}
use Rattle.pw_law_analysis.specs.OwedLaws.{IsAnalysed, HoldsOver}

-- ---- the program of texts

-- A module has the name of its text, and its typed tree is what checking answers for the tree of the text.
pub record IsModuleOf (source : Source) (m : ProgramModule) : Type 0 where
  pub name : m.name ≡ source.0
  pub tree : Module
  pub has_tree : HasTree source.1 tree
  pub checks : Checks tree (Ok m.tree)

-- of each text one, in their order
abbrev pub AreModulesOf : List Source → List ProgramModule → Type 0
AreModulesOf [] [] = Unit {0}
AreModulesOf (source ∷ sources) (m ∷ ms) = IsModuleOf source m × AreModulesOf sources ms
AreModulesOf sources ms = ⊥

abbrev pub IsProgramOf : Texts → Program → Type 0
IsProgramOf texts p = AreModulesOf (finite.entries texts) p.modules

-- no module has a colon in its name
abbrev pub HavePlainNames : Texts → Type 0
HavePlainNames texts = AllByRecursion HasNoColon (finite.keys texts)

-- ---- the parts of its build

abbrev pub flow_of : ProgramModule → FlowModule
flow_of m = lowered m.name m.tree

-- the flow graphs of which it is made: those of its modules, optimised or not
abbrev pub AreFormsOf : Bool → Program → List FlowModule → Type 0
AreFormsOf optimise p forms = AreForms optimise (map flow_of p.modules) forms

-- their summaries
abbrev pub Summarise : List FlowModule → List Summary → Type 0
Summarise forms summaries = AreSummariesOf forms summaries

-- these flow graphs as a program, with the frames of its image
abbrev pub flows_in : List FlowModule → Parts → ℕ → flows.Program
flows_in forms parts stack = record { modules = forms; frame_of = frame_in (image_of parts.objects stack); stack = stack }

-- its functions under the directives of the database, each with the places that the second phase gives
abbrev pub functions_under : List FlowModule → Parts → ℕ → List Located
functions_under forms parts stack = allocated_functions (flows_in forms parts stack) parts.database

-- The program is checked, and accepted in the words of C's meaning; its flow graphs, optimised or not, are laid out with the places
-- that allocation gives; and by the law of lowering they implement it, and the parts are what the analyser, allocation and selection make of them.
pub record IsWholeWith (p : Program) (parts : Parts) (opts : Opts) : Type 0 where
  pub checked : AreChecked p
  pub whole : IsWhole p (frame_in (image_of parts.objects opts.stack)) opts.stack
  pub forms : List FlowModule
  pub of_program : AreFormsOf opts.optimise p forms
  pub laid_out : IsLaidOut p (flows_in forms parts opts.stack) parts.database (functions_under forms parts opts.stack) parts.objects
  pub summaries : List Summary
  pub summarise : Summarise forms summaries
  pub analysed : LoweringKeepsRuns → IsAnalysed p (flows_in forms parts opts.stack) summaries opts.colours parts.database (functions_under forms parts opts.stack) parts.objects

-- What holds of a built program and of its image's traffic and registers, on every input, over the summaries of its flow graphs
-- and the database that they have.
pub record HoldsWith (p : Program) (parts : Parts) (opts : Opts) : Type 0 where
  pub forms : List FlowModule
  pub of_program : AreFormsOf opts.optimise p forms
  pub summaries : List Summary
  pub summarise : Summarise forms summaries
  pub database : IsDatabaseOf summaries opts.colours parts.database
  pub holds : (input : List ℕ) → AreBytes input → HoldsOver p (flows_in forms parts opts.stack) summaries opts.colours parts.database (functions_under forms parts opts.stack) parts.objects input
