-- Flow graphs, summaries and objects of the same modules, as far as the linking tests look at them.
use Rattle.std.specs.Prelude.{◌≡◌, ◌⊎◌, ℕ, List, [], ◌∷◌, ◌++◌, Contains}
use Rattle.std.specs.List.{flat_map}
use Rattle.pw_value.specs.ProgramNames.{main_name}
use Rattle.pw_flow.specs.declared.flow.FlowFn.{FlowFn}
use Rattle.pw_flow.specs.declared.flow.FlowModule.{FlowModule}
use Rattle.pw_flow.specs.FlowGraph.{function_names, global_names, named_in, names_in_global}
use Rattle.pw_summary.specs.declared.summary.Summary.{Summary}
use Rattle.pw_summarise.specs.Summarises.{function_entries, Summarises}
use Rattle.pw_link_rules.specs.declared.interface.Interface.{Interface}
use Rattle.pw_graph.specs.Program.{main_in}
use Rattle.pw_db.specs.declared.database.Directives.{Directives}
use Rattle.pw_db.specs.declared.database.Web.{Web}
use Rattle.pw_db.specs.Database.{all_webs}
use Rattle.pw_object.specs.declared.object.Object.{Object}
use Rattle.pw_object.specs.Object as object
use Rattle.pw_link_interface.specs.Interface.{names_of_fixes}
use Rattle.pw_phase_two.specs.Phases.{AreDirectivesOf, IsObjectOf}

-- what a flow graph shows to the others of its program: what it defines and declares, every name that it names, and the
-- shape of its `main`
abbrev pub shown : FlowModule → Interface
shown m = record { «module» = m.name; functions = function_names m; globals = global_names m; declared = m.declared; used = named_in m; main = main_in (function_entries m) }

-- Where the module defines a function `main`, it declares it with its shape. A summary tells the shape of the definition,
-- and an object that of the declaration.
abbrev pub DeclaresMain : FlowModule → Type 0
DeclaresMain m = (f : FlowFn) → Contains m.functions f → f.name ≡ main_name → Contains m.declared (main_name, f.shape)

-- the summaries of flow graphs, in their order
abbrev pub AreSummariesOf : List FlowModule → List Summary → Type 0
AreSummariesOf [] [] = Unit {0}
AreSummariesOf [] (s ∷ ss) = ⊥
AreSummariesOf (f ∷ fs) [] = ⊥
AreSummariesOf (f ∷ fs) (s ∷ ss) = Summarises f s × AreSummariesOf fs ss

-- the global objects that the modules of a program define
abbrev pub globals_of : List FlowModule → List (List ℕ)
globals_of program = flat_map global_names program

-- The second phase made the object of the module, under directives whose webs are of globals of the program.
pub record IsObjectIn (program : List FlowModule) (m : FlowModule) (o : Object) : Type 0 where
  pub directives : List (List ℕ × Directives)
  pub of_module : AreDirectivesOf m directives
  pub made : IsObjectOf m directives o
  pub webs : (w : Web) → Contains (all_webs directives) w → Contains (globals_of program) w.global

-- of each module one, in their order
abbrev pub AreObjectsIn : List FlowModule → List FlowModule → List Object → Type 0
AreObjectsIn program [] [] = Unit {0}
AreObjectsIn program [] (o ∷ os) = ⊥
AreObjectsIn program (m ∷ ms) [] = ⊥
AreObjectsIn program (m ∷ ms) (o ∷ os) = IsObjectIn program m o × AreObjectsIn program ms os

-- the names in the items of an object's globals, and in the relocations of its words
abbrev pub named_by : Object → List (List ℕ)
named_by o = flat_map names_in_global o.globals ++ flat_map names_of_fixes o.functions

-- The object shows what its module does, whoever made it: its functions and globals have the names of the module's, it lists
-- what the summary lists, and what its items and relocations name besides are globals of the program.
pub record ShowsModule (program : List FlowModule) (m : FlowModule) (s : Summary) (o : Object) : Type 0 where
  pub home : o.module ≡ m.name
  pub functions : object.function_names o ≡ function_names m
  pub globals : object.global_names o ≡ global_names m
  pub declared : o.declared ≡ s.declared
  pub used : o.used ≡ s.used
  pub named : (n : List ℕ) → Contains (named_by o) n → Contains s.used n ⊎ Contains (globals_of program) n

-- of each module one, in their order
abbrev pub ShowModules : List FlowModule → List FlowModule → List Summary → List Object → Type 0
ShowModules program [] [] [] = Unit {0}
ShowModules program [] [] (o ∷ os) = ⊥
ShowModules program [] (s ∷ ss) os = ⊥
ShowModules program (m ∷ ms) [] os = ⊥
ShowModules program (m ∷ ms) (s ∷ ss) [] = ⊥
ShowModules program (m ∷ ms) (s ∷ ss) (o ∷ os) = ShowsModule program m s o × ShowModules program ms ss os
