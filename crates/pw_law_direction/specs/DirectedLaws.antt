-- Laws of the run of a program under directives, of that run alone.
use Rattle.std.specs.Prelude.{ℕ, ◌≡◌, true, Option, List, map, Contains}
use Rattle.pw_value.specs.declared.value.Pointer.TheVariants.{Function}
use Rattle.pw_value.specs.declared.value.Value.{Value}
use Rattle.pw_value.specs.ProgramNames.{start_name}
use Rattle.pw_db.specs.declared.database.Directives.{Directives}
use Rattle.pw_db.specs.Database.{IsDatabase}
use Rattle.pw_flow.specs.declared.flow.FlowFn.{FlowFn}
use Rattle.pw_flow.specs.declared.flow.Op.{Op}
use Rattle.pw_flow.specs.Uses.{op_calls}
use Rattle.pw_webflow.specs.declared.web.WebBlock.{WebBlock}
use Rattle.pw_webflow.specs.declared.web.WebOp.TheVariants.{Flow}
use Rattle.pw_db_sound.specs.CallGraphs.{Calls}
use Rattle.pw_db_sound.specs.Sound.{Sound}
use Rattle.pw_run.specs.Runs.{Refines}
use Rattle.pw_run_languages.specs.Traces.{Notes, KeepRegisters, calls_of}
use Rattle.pw_run_languages.specs.Traffic.{ObeysTraffic}
use Rattle.pw_run_languages.specs.Calls.{FollowsCalls}
use Rattle.pw_run_languages.specs.Programs.{Program, functions_of, names_of, function_number}
use Rattle.pw_run_languages.specs.Commands.{Enter, command}
use Rattle.pw_run_languages.specs.LawfulPrograms.{IsProgram, graph_of}
use Rattle.pw_run_languages.specs.FlowRun.{flow_run}
use Rattle.pw_run_languages.specs.Direction.{directed_by, unplaced, directed_functions, with_functions, web_run, MomentAlike}
use Rattle.pw_run_languages.specs.PlacedRun.{Machine, On, steps, start}
use Rattle.pw_run_languages.specs.PlacementLaws.{DirectionKeepsRuns}
use Rattle.pw_law_direction.specs.Values.{IsTaken, FinePointer, FineValue, AreFine}

abbrev pub CallsAreOfTheGraph : Type 0
CallsAreOfTheGraph =
    (p : Program) (d : List (List ℕ × Directives)) (input : List ℕ) → IsProgram p → (n : ℕ) →
    Notes (FollowsCalls (graph_of p)) (web_run p d input n)

-- what a run notes obeys the law of traffic
abbrev pub TrafficIsObeyed : Type 0
TrafficIsObeyed =
    (p : Program) (d : List (List ℕ × Directives)) (input : List ℕ) → IsProgram p → IsDatabase d → Sound (graph_of p) d → (n : ℕ) →
    Notes (ObeysTraffic (graph_of p) d) (web_run p d input n)

-- each return gives back the registers that a callee keeps, but those of webs in which the function is a member
abbrev pub RegistersAreKept : Type 0
RegistersAreKept =
    (p : Program) (d : List (List ℕ × Directives)) (input : List ℕ) → IsProgram p → IsDatabase d → Sound (graph_of p) d → (n : ℕ) →
    Notes (KeepRegisters d) (web_run p d input n)

-- the first part of the law of direction: the directed run keeps the flow run, with each global in its place at each call
-- and return
abbrev pub DirectionRefines : Type 0
DirectionRefines =
    (p : Program) (d : List (List ℕ × Directives)) (input : List ℕ) → IsProgram p → IsDatabase d → Sound (graph_of p) d →
    Refines (MomentAlike p) (flow_run p input) (calls_of (web_run p d input))

abbrev pub DirectionRestsOnRuns : Type 0
DirectionRestsOnRuns = DirectionRefines → DirectionKeepsRuns

-- whatever the directives, the values of each state of a run lead to no function whose address nothing takes, and to no
-- global that a register may hold
abbrev pub ValuesAreFine : Type 0
ValuesAreFine =
    (p : Program) (d : List (List ℕ × Directives)) (input : List ℕ) → IsProgram p → (n : ℕ) (m : Machine) →
    steps (with_functions p (map unplaced (directed_functions p d))) n (start (with_functions p (map unplaced (directed_functions p d))) input) ≡ On m → AreFine p m

-- a pointer to a function whose address is taken leads to no other function
abbrev pub TakenFunctionsAreFine : Type 0
TakenFunctionsAreFine = (p : Program) (f : List ℕ) → IsTaken p f → Contains (names_of p) f → FinePointer p (Function (function_number p f))

-- no function calls `$start`
abbrev pub StartIsNotCalled : Type 0
StartIsNotCalled = (p : Program) (caller : List ℕ) → IsProgram p → ¬ Calls (graph_of p) caller start_name

-- where the values of its temporaries are fine, an operation of a function under directives enters a function only if it is a
-- call, and then one that the graph says it calls
abbrev pub OperationsCallByTheGraph : Type 0
OperationsCallByTheGraph =
    (p : Program) (d : List (List ℕ × Directives)) (f : FlowFn) (block : WebBlock) (o : Op) (base : ℕ) (value : ℕ → Value)
    (t : Option ℕ) (g : List ℕ) (args : List Value) →
    Contains (functions_of p) f → Contains (directed_by d f).blocks block → Contains block.ops (Flow o) →
    ((t : ℕ) → FineValue p (value t)) → command p base o value ≡ Enter t g args →
    (op_calls o ≡ true) × Calls (graph_of p) (directed_by d f).name g
