-- The run of flow graphs and the directed run side by side. They go step by step together, so what both have stands
-- here once, and beside it what each has of its own.
use Rattle.std.specs.Prelude.{ℕ, Option, List, ◌∷◌, map}
use Rattle.pw_value.specs.declared.value.Value.{Value}
use Rattle.pw_value.specs.declared.value.Byte.{Byte}
use Rattle.pw_value.specs.Objects.{Object}
use Rattle.pw_db.specs.declared.database.Web.{Web}
use Rattle.pw_db.specs.declared.database.Role.{Role}
use Rattle.pw_db.specs.declared.database.Directives.{Directives}
use Rattle.pw_flow.specs.declared.flow.Op.{Op}
use Rattle.pw_flow.specs.declared.flow.End.{End}
use Rattle.pw_flow.specs.declared.flow.FlowFn.{FlowFn}
use Rattle.pw_webflow.specs.Direction.{directed_op}
use Rattle.pw_run_languages.specs.Traces.{Event}
use Rattle.pw_run_languages.specs.Programs.{Program}
use Rattle.pw_run_languages.specs.FlowRun as flow
use Rattle.pw_run_languages.specs.PlacedRun as web
use Rattle.pw_run_languages.specs.Direction.{directives_of, directed_by, unplaced, directed_functions, with_functions}

-- A function that is active, in both runs: what is left of its block, before direction; what its temporaries hold, the
-- object of its first slot, and where its result goes. In the directed run also what it saved, and what the kept
-- registers held at its call.
pub record Active : Type 0 where
  pub function : FlowFn
  pub block : ℕ
  pub ops : List Op
  pub end : End
  pub temps : List Value
  pub base : ℕ
  pub result : Option ℕ
  pub saved : List (ℕ × Value)
  pub before : List Value

-- Both states: input, output and events are the same. The flow run has its objects and moments, the directed run its
-- registers, its memory and its trace.
pub record Pair : Type 0 where
  pub frame : Active
  pub callers : List Active
  pub rest : List ℕ
  pub read : ℕ
  pub out : List ℕ
  pub events : ℕ
  pub objects : List Object
  pub moments : List flow.Moment
  pub registers : ℕ → Value
  pub memory : List Object
  pub trace : List (Event Byte Value)

abbrev pub active_of : Pair → List Active
active_of x = x.frame ∷ x.callers

-- ---- the state of the flow run

abbrev pub flow_frame : Active → flow.Frame
flow_frame f = record {
  function = f.function;
  block = f.block;
  ops = f.ops;
  end = f.end;
  temps = f.temps;
  base = f.base;
  result = f.result;
}

abbrev pub flow_side : Pair → flow.Machine
flow_side x = record {
  frame = flow_frame x.frame;
  callers = map flow_frame x.callers;
  objects = x.objects;
  rest = x.rest;
  read = x.read;
  out = x.out;
  events = x.events;
  moments = x.moments;
}

-- ---- the state of the directed run

-- the webs of a function
abbrev pub webs_of : List (List ℕ × Directives) → FlowFn → List (Web × Role)
webs_of d f = (directives_of d f.name).webs

abbrev pub web_frame : List (List ℕ × Directives) → Active → web.Frame
web_frame d f = record {
  function = unplaced (directed_by d f.function);
  block = f.block;
  ops = map (directed_op (webs_of d f.function)) f.ops;
  end = f.end;
  temps = f.temps;
  base = f.base;
  result = f.result;
  saved = f.saved;
  before = f.before;
}

abbrev pub web_frames : List (List ℕ × Directives) → List Active → List web.Frame
web_frames d fs = map (web_frame d) fs

abbrev pub web_side : List (List ℕ × Directives) → Pair → web.Machine
web_side d x = record {
  frame = web_frame d x.frame;
  callers = web_frames d x.callers;
  registers = x.registers;
  objects = x.memory;
  rest = x.rest;
  read = x.read;
  out = x.out;
  events = x.events;
  trace = x.trace;
}

-- the program under directives, as `web_run` runs it
abbrev pub under : Program → List (List ℕ × Directives) → web.PlacedProgram
under p d = with_functions p (map unplaced (directed_functions p d))
