-- A function of a name, as both runs find it.
use Rattle.std.specs.Prelude.{ℕ, ◌≡◌, ◌⊎◌, Some, None, List, Contains}
use Rattle.pw_types.specs.TypedTrees.{FunctionValue}
use Rattle.pw_lower.specs.Modules.{lowered_function}
use Rattle.pw_cmean.specs.Worlds.{ProgramModule, World, LibraryFunction, ExitRun, GetChar, PutChar, Callable, callable, library_callable}
use Rattle.pw_run_languages.specs.Programs as flows
use Rattle.pw_run_languages.specs.Programs.{Library, library_at}
use Rattle.pw_law_refine_steps.specs.FromLawRefine.Activations.{graphs}

-- what the flow run has of the library
abbrev pub flow_library : LibraryFunction → Library
flow_library ExitRun = flows.Exit
flow_library GetChar = flows.GetChar
flow_library PutChar = flows.PutChar

-- one of the library
pub record IsOfLibrary (name : List ℕ) (f : Callable) : Type 0 where
  pub function : LibraryFunction
  pub is : f ≡ library_callable function
  pub there : library_at name ≡ Some (flow_library function)

-- one that a module defines: its flow graph is found by the same name, and has its shape
pub record IsDefinedAs (world : World) (name : List ℕ) (f : Callable) : Type 0 where
  pub home : ProgramModule
  pub function : FunctionValue
  pub stands : Contains world.program.modules home
  pub there : Contains home.tree.functions function
  pub is : f ≡ callable home function
  pub no_library : library_at name ≡ None
  pub graph : flows.function_named (graphs world) name ≡ Some (lowered_function home.name home.tree.records function)
  pub shape : (lowered_function home.name home.tree.records function).shape ≡ f.shape

abbrev pub IsFoundAs : World → List ℕ → Callable → Type 0
IsFoundAs world name f = IsOfLibrary name f ⊎ IsDefinedAs world name f
