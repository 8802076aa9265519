-- A call for which the stack has no room, in the placed run, in the run of flow graphs and in the run of lines.
use Rattle.std.specs.Prelude.{ℕ, ◌≡◌, true, Option, Some, None, List, ◌∷◌, ◌++◌, length, map}
use Rattle.pw_value.specs.declared.value.Value.{Value}
use Rattle.pw_value.specs.declared.value.Byte.{Byte}
use Rattle.pw_value.specs.Objects.{Object}
use Rattle.pw_flow.specs.declared.flow.Op.{Op}
use Rattle.pw_flow.specs.Uses.{op_calls}
use Rattle.pw_webflow.specs.declared.web.WebOp.{WebOp}
use Rattle.pw_webflow.specs.declared.web.WebOp.TheVariants.{Flow}
use Rattle.pw_alloc.specs.declared.located.Located.{Located}
use Rattle.pw_run.specs.Runs.{AreAlike, Going, Over, Same, Stage, View, Wrong}
use Rattle.pw_run_languages.specs.Traces.{Called, Event, EventAlike, Refused, calls_alone}
use Rattle.pw_run_languages.specs.Programs.{Program, library_at}
use Rattle.pw_run_languages.specs.Commands.{Enter, command}
use Rattle.pw_run_languages.specs.Addresses.{Addresses}
use Rattle.pw_run_languages.specs.Standing.{EventInWords}
use Rattle.pw_run_languages.specs.FlowRun as flow
use Rattle.pw_run_languages.specs.LineRun as run
use Rattle.pw_run_languages.specs.PlacedRun as placed
use Rattle.pw_run_languages.specs.PlacedRun.{exceeds, globals_now, noted, value_in}
use Rattle.pw_run_languages.specs.Direction.{MomentAlike, with_functions}
use Rattle.pw_run_languages.specs.SelectionLaws.{line_program}

-- the placed run with these operations left of its block
abbrev pub behind : List WebOp → placed.Machine → placed.Machine
behind ops m = record m { frame = record m.frame { ops = ops } }

-- In this state an operation is next that calls a function of a module, with values of temporaries; the stack would be exceeded; and
-- the run stops so, with the call refused.
pub record IsRefused (p : Program) (functions : List Located) (m u : placed.Machine) : Type 0 where
  pub op : Op
  pub ops : List WebOp
  pub next : m.frame.ops ≡ Flow op ∷ ops
  pub calls : op_calls op ≡ true
  pub result : Option ℕ
  pub name : List ℕ
  pub from : List ℕ
  pub enters : command p m.frame.base op (value_in m.frame m.registers) ≡ Enter result name (map (value_in m.frame m.registers) from)
  pub of_module : library_at name ≡ None
  pub function : Located
  pub found : placed.function_named (with_functions p functions) name ≡ Some function
  pub full : exceeds (with_functions p functions) function.body.name (m.frame ∷ m.callers) ≡ true
  pub stops : u ≡ noted (Refused function.body.name) (behind ops m)

-- what the placed run has noted in a state, and as the latest the call of this function
abbrev pub log_with_call : Program → List Located → List ℕ → placed.Machine → List (Event Byte Value)
log_with_call p functions name m = Called name (globals_now (with_functions p functions) m.registers (m.frame ∷ m.callers) m.objects) (placed.kept m.registers) ∷ m.trace

-- what a run has shown at a stage, if it has not gone wrong
abbrev pub HasShown : {M : Type 0} → Stage M → View M → Type 0
HasShown (Going v) view = v ≡ view
HasShown (Over end v) view = v ≡ view
HasShown Wrong view = ⊥

-- The placed run comes to a state in which it is refused a call. What it has noted there, and as the latest that call, is alike to a
-- part of the log of another run of flow graphs, in which so many moments are behind the call.
pub record IsRefusedAlike (p : Program) (functions : List Located) (input : List ℕ) (count : ℕ) (log : List flow.Moment) : Type 0 where
  pub at : ℕ
  pub last : placed.Machine
  pub stopped : placed.Machine
  pub comes : placed.steps (with_functions p functions) at (placed.start (with_functions p functions) input) ≡ placed.On last
  pub refused : IsRefused p functions last stopped
  pub objects : List Object
  pub before : List flow.Moment
  pub since : List flow.Moment
  pub is : log ≡ since ++ flow.Called refused.function.body.name objects ∷ before
  pub long : length before ≡ count
  -- as the run under directives notes it
  pub webs : List (Event Byte Value)
  pub moments : AreAlike (MomentAlike p) (flow.Called refused.function.body.name objects ∷ before) (calls_alone webs)
  pub events : AreAlike (EventAlike Same Same) webs (log_with_call p functions refused.function.body.name (behind refused.ops last))

-- The run of lines comes to a state in which that call is noted, with the globals in the like places with like contents as in the
-- placed run.
pub record NotesRefused (p : Program) (functions : List Located) (w : Addresses) (scratch : ℕ → (ℕ → ℕ) → ℕ → ℕ) (input : List ℕ) (m : placed.Machine) (name : List ℕ) : Type 0 where
  pub count : ℕ
  pub state : run.Machine
  pub comes : run.steps (line_program p functions) w scratch count (run.start (line_program p functions) w input) ≡ run.On state
  pub alike : AreAlike (EventInWords p w.named) (log_with_call p functions name m) state.trace
