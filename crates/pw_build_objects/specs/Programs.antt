-- From the flow graphs of modules to their program, which is made of them or of their optimised forms. What was kept of a module stands at its place in a list, which may
-- end early: a kept object stays where it was made of the same flow graph under the same directives.
use Rattle.std.specs.Prelude.{◌≡◌, ℕ, ◌⊎◌, Bool, true, false, List, [], ◌∷◌, Option, Some, None, Result, Ok, Err}
use Rattle.std.specs.List.{AllByRecursion}
use Rattle.pw_value.specs.declared.fault.LinkFault.{LinkFault}
use Rattle.pw_flow.specs.declared.flow.FlowModule.{FlowModule}
use Rattle.pw_flow.specs.ValidFlow.{IsValid}
use Rattle.pw_flowfile.specs.FlowFile.{IsFlowFile}
use Rattle.pw_law_opt.specs.Laws.{AreOptimisedModules}
use Rattle.pw_summary.specs.declared.summary.Summary.{Summary}
pub use Rattle.pw_law_shown.specs.Alike.{AreSummariesOf, DeclaresMain}
use Rattle.pw_graph.specs.Program as graph
use Rattle.pw_colour.specs.Colours.{IsDatabaseOf}
use Rattle.pw_db.specs.declared.database.Directives.{Directives}
use Rattle.pw_object.specs.declared.object.Object.{Object}
use Rattle.pw_phase_two.specs.Phases.{AreDirectivesIn, IsObjectOf, IsPayloadOf}
use Rattle.pw_link.specs.Linking.{AreLinked, IsRefusal}
use Rattle.pw_build_opts.specs.declared.opts.Opts.{Opts}

-- functions by name, each with its directives
abbrev pub DirectivesList : Type 0
DirectivesList = List (List ℕ × Directives)

-- ---- the flow graphs of which a program is made

-- The forms of modules: their optimised flow graphs, if they are to be optimised, else their own.
abbrev pub AreForms : Bool → List FlowModule → List FlowModule → Type 0
AreForms false flows forms = forms ≡ flows
AreForms true flows forms = AreOptimisedModules flows forms

-- ---- rules of linking, and the database

-- the modules keep the rules of linking
pub record KeepRules (flows : List FlowModule) : Type 0 where
  pub summaries : List Summary
  pub of_flows : AreSummariesOf flows summaries
  pub linked : graph.AreLinked summaries

-- the modules keep the rules of linking, and this is their database for so many registers
pub record HasDatabase (flows : List FlowModule) (colours : ℕ) (db : DirectivesList) : Type 0 where
  pub summaries : List Summary
  pub of_flows : AreSummariesOf flows summaries
  pub linked : graph.AreLinked summaries
  pub database : IsDatabaseOf summaries colours db

-- the modules break a rule of linking
pub record BreakRule (flows : List FlowModule) (fault : LinkFault) : Type 0 where
  pub summaries : List Summary
  pub of_flows : AreSummariesOf flows summaries
  pub refused : graph.AreRefused summaries fault

-- ---- the object of a module

-- The object was made of this flow graph under these directives: their file and their payload stand in it.
pub record IsMadeOf (flow : FlowModule) (directives : DirectivesList) (o : Object) : Type 0 where
  pub flow_file : IsFlowFile o.flow flow
  pub payload : IsPayloadOf o.directives directives

-- the object was made of some flow graph and directives
pub record WasMade (o : Object) : Type 0 where
  pub flow : FlowModule
  pub directives : DirectivesList
  pub of : IsMadeOf flow directives o

-- what was kept of a module stays
abbrev pub Stays : FlowModule → DirectivesList → Option Object → Type 0
Stays flow directives None = ⊥
Stays flow directives (Some o) = IsMadeOf flow directives o

-- the object of a module under directives, and whether it is made anew
abbrev pub IsObjectFrom : FlowModule → DirectivesList → Option Object → Object → Bool → Type 0
IsObjectFrom flow directives old o true = (¬ Stays flow directives old) × IsObjectOf flow directives o
IsObjectFrom flow directives old o false = (old ≡ Some o) × IsMadeOf flow directives o

-- the object of a module under its directives in a database, and whether it is made anew
pub record IsModuleFrom (db : DirectivesList) (flow : FlowModule) (old : Option Object) (o : Object) (fresh : Bool) : Type 0 where
  pub directives : DirectivesList
  pub in_database : AreDirectivesIn db flow directives
  pub object : IsObjectFrom flow directives old o fresh

-- what was kept of the first module, and of those behind it
abbrev pub first_kept : List (Option Object) → Option Object
first_kept [] = None
first_kept (old ∷ more) = old

abbrev pub kept_behind : List (Option Object) → List (Option Object)
kept_behind [] = []
kept_behind (old ∷ more) = more

-- the objects of all modules in their order, and which of them are made anew
abbrev pub AreObjectsFrom : DirectivesList → List FlowModule → List (Option Object) → List Object → List Bool → Type 0
AreObjectsFrom db [] kept [] [] = Unit {0}
AreObjectsFrom db (flow ∷ flows) kept (o ∷ os) (fresh ∷ more) = IsModuleFrom db flow (first_kept kept) o fresh × AreObjectsFrom db flows (kept_behind kept) os more
AreObjectsFrom db [] kept [] (fresh ∷ more) = ⊥
AreObjectsFrom db [] kept (o ∷ os) more = ⊥
AreObjectsFrom db (flow ∷ flows) kept [] more = ⊥
AreObjectsFrom db (flow ∷ flows) kept (o ∷ os) [] = ⊥

-- ---- the program

-- what a program is linked of: its database, the objects of its modules, and which of them are made anew
pub record Parts : Type 0 where
  pub database : DirectivesList
  pub objects : List Object
  pub fresh : List Bool

-- The parts of lawful modules that keep the rules of linking, by their own flow graphs: the database of their forms, and the
-- objects of these.
pub record AreParts (flows : List FlowModule) (kept : List (Option Object)) (opts : Opts) (parts : Parts) : Type 0 where
  pub lawful : AllByRecursion IsValid flows
  pub rules : KeepRules flows
  pub forms : List FlowModule
  pub of_flows : AreForms opts.optimise flows forms
  pub database : HasDatabase forms opts.colours parts.database
  pub objects : AreObjectsFrom parts.database forms kept parts.objects parts.fresh

-- The one answer to flow graphs and kept objects, for so many registers and such a stack, with optimisation or without: the
-- parts of a program that can be linked; or why there is none, by the modules' summaries or else by their objects.
abbrev pub Completes : List FlowModule → List (Option Object) → Opts → Result Parts LinkFault → Type 0
Completes flows kept opts (Ok parts) = AreParts flows kept opts parts × AreLinked parts.objects opts.stack
Completes flows kept opts (Err fault) =
    (AllByRecursion IsValid flows × BreakRule flows fault)
    ⊎ ((parts : Parts) × AreParts flows kept opts parts × IsRefusal parts.objects opts.stack fault)
