-- The directed run and the placed run side by side. They go step by step together, so what both have stands here once, and
-- beside it what each has of its own.
use Rattle.std.specs.Prelude.{ℕ, Option, List, map, slice_index_or}
use Rattle.pw_value.specs.declared.value.Value.{Value}
use Rattle.pw_value.specs.declared.value.Value.TheVariants.{Undefined}
use Rattle.pw_value.specs.declared.value.Byte.{Byte}
use Rattle.pw_value.specs.Objects.{Object}
use Rattle.pw_db.specs.declared.database.Directives.{Directives}
use Rattle.pw_flow.specs.declared.flow.End.{End}
use Rattle.pw_webflow.specs.declared.web.WebOp.{WebOp}
use Rattle.pw_alloc.specs.declared.located.Located.{Located}
use Rattle.pw_run_languages.specs.Traces.{Event}
use Rattle.pw_run_languages.specs.Programs.{Program}
use Rattle.pw_run_languages.specs.PlacedRun.{PlacedProgram, Frame, Machine, value_in}
use Rattle.pw_run_languages.specs.Direction.{unplaced, directed_functions, with_functions}

-- what an active function has in one of the runs: the temporaries that it has no register for, what it saved, and what
-- the kept registers held at its call
pub record Own : Type 0 where
  pub temps : List Value
  pub saved : List (ℕ × Value)
  pub before : List Value

-- A function that is active in both runs, with what is left of its block, the object of its first slot, and where its
-- result goes.
pub record Active : Type 0 where
  pub function : Located
  pub block : ℕ
  pub ops : List WebOp
  pub end : End
  pub base : ℕ
  pub result : Option ℕ
  pub bare : Own
  pub placed : Own

-- Both states: objects, input, output and events are the same. Each run has its registers and its trace.
pub record Twin : Type 0 where
  pub frame : Active
  pub callers : List Active
  pub objects : List Object
  pub rest : List ℕ
  pub read : ℕ
  pub out : List ℕ
  pub events : ℕ
  pub registers : ℕ → Value
  pub trace : List (Event Byte Value)
  pub bank : ℕ → Value
  pub notes : List (Event Byte Value)

-- ---- the state of the directed run

abbrev pub bare_frame : Active → Frame
bare_frame f = record {
  function = unplaced f.function.body;
  block = f.block;
  ops = f.ops;
  end = f.end;
  temps = f.bare.temps;
  base = f.base;
  result = f.result;
  saved = f.bare.saved;
  before = f.bare.before;
}

abbrev pub bare_side : Twin → Machine
bare_side x = record {
  frame = bare_frame x.frame;
  callers = map bare_frame x.callers;
  registers = x.registers;
  objects = x.objects;
  rest = x.rest;
  read = x.read;
  out = x.out;
  events = x.events;
  trace = x.trace;
}

abbrev pub bare_value : Active → ℕ → Value
bare_value f t = slice_index_or f.bare.temps t Undefined

-- the program without places
abbrev pub bare_program : Program → List (List ℕ × Directives) → PlacedProgram
bare_program p d = with_functions p (map unplaced (directed_functions p d))

-- ---- the state of the placed run

abbrev pub placed_frame : Active → Frame
placed_frame f = record {
  function = f.function;
  block = f.block;
  ops = f.ops;
  end = f.end;
  temps = f.placed.temps;
  base = f.base;
  result = f.result;
  saved = f.placed.saved;
  before = f.placed.before;
}

abbrev pub placed_side : Twin → Machine
placed_side x = record {
  frame = placed_frame x.frame;
  callers = map placed_frame x.callers;
  registers = x.bank;
  objects = x.objects;
  rest = x.rest;
  read = x.read;
  out = x.out;
  events = x.events;
  trace = x.notes;
}

abbrev pub placed_value : Active → (ℕ → Value) → ℕ → Value
placed_value f bank t = value_in (placed_frame f) bank t
