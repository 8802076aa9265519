-- What optimisation owes.
use Rattle.std.specs.Prelude.{ℕ, ◌≡◌, List, [], ◌∷◌, map, Contains}
use Rattle.std.specs.List.{AllByRecursion, flat_map}
use Rattle.pw_flow.specs.declared.flow.FlowFn.{FlowFn}
use Rattle.pw_flow.specs.declared.flow.FlowModule.{FlowModule}
use Rattle.pw_flow.specs.FlowGraph.{named_in}
use Rattle.pw_flow.specs.FrameRooms.{flow_room}
use Rattle.pw_flow.specs.Addressed.{addressed}
use Rattle.pw_flow.specs.ValidFlow.{IsValid}
use Rattle.pw_run.specs.Runs.{Refines, Same}
use Rattle.pw_run_languages.specs.Programs.{Program}
use Rattle.pw_run_languages.specs.LawfulPrograms.{IsProgram}
use Rattle.pw_run_languages.specs.FlowRun.{flow_run}
use Rattle.pw_opt_rules.specs.Optimised.{IsOptimised, IsOptimisedModule}
use Rattle.pw_law_opt.specs.Sides.{with_modules}

-- modules one by one
pub data AreOptimisedModules : List FlowModule → List FlowModule → Type 0 where
  none : AreOptimisedModules [] []
  also : (m n : FlowModule) (ms ns : List FlowModule) → IsOptimisedModule m n → AreOptimisedModules ms ns → AreOptimisedModules (m ∷ ms) (n ∷ ns)

-- The run of a program's optimised modules does what the run of its modules does, with the same calls and returns, for as
-- long as that does not go wrong.
abbrev pub OptimisationKeepsRuns : Type 0
OptimisationKeepsRuns = (p : Program) (ns : List FlowModule) (input : List ℕ) → AllByRecursion IsValid p.modules → AreOptimisedModules p.modules ns
    → Refines Same (flow_run p input) (flow_run (with_modules p ns) input)

-- a function's frame has the same bound
abbrev pub OptimisationKeepsRooms : Type 0
OptimisationKeepsRooms = (m : FlowModule) (f g : FlowFn) → IsOptimised m f g → flow_room g ≡ flow_room f

-- an optimised module of a lawful one is lawful
abbrev pub OptimisationKeepsLawful : Type 0
OptimisationKeepsLawful = (m n : FlowModule) → IsValid m → IsOptimisedModule m n → IsValid n

-- and the optimised modules of a lawful program are one
abbrev pub OptimisationKeepsPrograms : Type 0
OptimisationKeepsPrograms = (p : Program) (ns : List FlowModule) → IsProgram p → AreOptimisedModules p.modules ns → IsProgram (with_modules p ns)

-- what a function shows: its name and its shape
abbrev pub entry : FlowFn → List ℕ × List ℕ
entry f = (f.name, f.shape)

-- the names whose address a module's functions take
abbrev pub addresses_in : FlowModule → List (List ℕ)
addresses_in m = flat_map (λ f. flat_map (λ b. flat_map addressed b.ops) f.blocks) m.functions

-- What an optimised module shows to others is what the module shows, but that it may name fewer names, and take the addresses
-- of fewer.
pub record ShowsNoMore (m n : FlowModule) : Type 0 where
  pub entries : map entry n.functions ≡ map entry m.functions
  pub fewer : (name : List ℕ) → Contains (named_in n) name → Contains (named_in m) name
  pub addresses : (name : List ℕ) → Contains (addresses_in n) name → Contains (addresses_in m) name

abbrev pub OptimisationShowsNoMore : Type 0
OptimisationShowsNoMore = (m n : FlowModule) → IsOptimisedModule m n → ShowsNoMore m n
