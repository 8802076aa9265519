-- The law: lowering keeps the meaning of programs. And what it rests on.
use Rattle.std.specs.Prelude.{ℕ, ◌≡◌, ◌≢◌, Some, None, List, [], ◌∷◌, length}
use Rattle.pw_value.specs.declared.value.Value.TheVariants.{Undefined}
use Rattle.pw_value.specs.ProgramNames.{main_name, exit_name}
use Rattle.pw_flow.specs.declared.flow.Op.TheVariants.{Call}
use Rattle.pw_flow.specs.declared.flow.End.TheVariants.{Return}
use Rattle.pw_lower.specs.Modules.{start_function}
use Rattle.pw_cmean.specs.Worlds.{Program, World, Callable, function_named}
use Rattle.pw_cmean.specs.Acts.{Wrong}
use Rattle.pw_cmean.specs.SourceRun.{start_state, source_run}
use Rattle.pw_run.specs.Runs.{Refines}
use Rattle.pw_law_source.specs.FromRunLanguages.Programs as flows
use Rattle.pw_law_source.specs.FromRunLanguages.Programs.{AreBytes, NoneForLibrary, start_objects}
use Rattle.pw_law_source.specs.FromRunLanguages.FlowRun.{Machine, On, start, flow_run}
use Rattle.pw_law_source.specs.Source.{source_progress}
use Rattle.pw_law_source.specs.Lowering.{MomentKept, flow_program, IsAccepted, AreChecked}
use Rattle.pw_law_refine.specs.Lowerable.{IsLowerable, IsLowerableWorld}
use Rattle.pw_law_refine.specs.Standing.{Spot}
use Rattle.pw_law_refine.specs.Activations.{graphs}
use Rattle.pw_law_refine.specs.Matching.{Matches}
use Rattle.pw_law_refine.specs.Expressions.{ExpressionsKeep, LvaluesKeep, AddressesKeep, ArgumentsKeep, ConditionsKeep}
use Rattle.pw_law_refine.specs.Statements.{StatementsKeep}
use Rattle.pw_law_refine.specs.Calls.{FitShape, CallsKeep, FunctionsKeep}

-- The run of the flow graphs meets each stage of the source's run: where that ends or is out of stack within a bound, so
-- is it; where the bound is reached, it goes on and has counted no fewer events; and where the source comes to an undefined
-- operation, it comes that far. Each time it has the same output and count of bytes read, the same calls and returns, and the
-- same values in globals at each.
abbrev pub ProgramsKeepRuns : Type 0
ProgramsKeepRuns =
    (p : Program) (frame_of : List ℕ → ℕ) (stack : ℕ) (input : List ℕ) →
    IsLowerable p frame_of stack → NoneForLibrary frame_of → AreBytes input →
    ((n : ℕ) → (source_run p frame_of stack input n).end ≢ Wrong) →
    Refines (MomentKept (flow_program p frame_of stack))
    (source_progress p frame_of stack input) (flow_run (flow_program p frame_of stack) input)

-- what checking owes: of what it answers for texts, what is accepted is lowerable
abbrev pub CheckedIsLowerable : Type 0
CheckedIsLowerable =
    (p : Program) (frame_of : List ℕ → ℕ) (stack : ℕ) → AreChecked p → IsAccepted p frame_of stack → IsLowerable p frame_of stack

-- ---- the parts

-- the promises of all parts at a bound
pub record PartsKeep (bound : ℕ) : Type 0 where
  pub expressions : ExpressionsKeep bound
  pub lvalues : LvaluesKeep bound
  pub addresses : AddressesKeep bound
  pub arguments : ArgumentsKeep bound
  pub conditions : ConditionsKeep bound
  pub statements : StatementsKeep bound
  pub functions : FunctionsKeep bound
  pub calls : CallsKeep bound

-- what the refinement of parts owes
abbrev pub AllPartsKeep : Type 0
AllPartsKeep = (bound : ℕ) → PartsKeep bound

-- ---- the start

-- `$start` is active; it calls `main`, and `exit` with the result
abbrev pub start_machine : flows.Program → List ℕ → Machine
start_machine p input = record {
  frame = record {
    function = start_function;
    block = 0;
    ops = Call (Some 0) main_name [] ∷ Call None exit_name (0 ∷ []) ∷ [];
    end = Return None;
    temps = Undefined ∷ [];
    base = length (start_objects p);
    result = None;
  };
  callers = [];
  objects = start_objects p;
  rest = input;
  read = 0;
  out = [];
  events = 0;
  moments = [];
}

-- The runs start in states that match, and `main` takes nothing.
pub record StartMatches (world : World) (input : List ℕ) : Type 0 where
  pub starts : start (graphs world) input ≡ On (start_machine (graphs world) input)
  pub spots : List Spot
  pub matches : Matches world spots (start_state world.program input) (start_machine (graphs world) input)
  pub main : (f : Callable) → function_named world.program main_name ≡ Some f → FitShape f.shape []

-- what the layout of objects owes
abbrev pub StartsMatch : Type 0
StartsMatch = (world : World) (input : List ℕ) → IsLowerableWorld world → AreBytes input → StartMatches world input
