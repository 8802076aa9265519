-- The run of flow graphs, and the run of the same functions with other blocks, side by side. What both have stands here once.
use Rattle.std.specs.Prelude.{ℕ, Option, List, map}
use Rattle.pw_value.specs.declared.value.Value.{Value}
use Rattle.pw_value.specs.Objects.{Object}
use Rattle.pw_flow.specs.declared.flow.Op.{Op}
use Rattle.pw_flow.specs.declared.flow.End.{End}
use Rattle.pw_flow.specs.declared.flow.Block.{Block}
use Rattle.pw_flow.specs.declared.flow.FlowFn.{FlowFn}
use Rattle.pw_flow.specs.declared.flow.FlowModule.{FlowModule}
use Rattle.pw_run_languages.specs.Programs.{Program}
use Rattle.pw_run_languages.specs.FlowRun.{Frame, Machine, Moment}
use Rattle.pw_opt_rules.specs.Rewriting.{with_blocks}
use Rattle.pw_law_opt.specs.Deeds.{with_result}

-- what is left of a block, and what the temporaries hold
pub record Left : Type 0 where
  pub ops : List Op
  pub end : End
  pub temps : List Value

abbrev pub left : List Op → End → List Value → Left
left ops end temps = record { ops = ops; end = end; temps = temps }

-- A function that is active in both runs, and its blocks in the second.
pub record Active : Type 0 where
  pub function : FlowFn
  pub blocks : List Block
  pub block : ℕ
  pub first : Left
  pub second : Left
  pub base : ℕ
  pub result : Option ℕ

pub record Twin : Type 0 where
  pub frame : Active
  pub callers : List Active
  pub objects : List Object
  pub rest : List ℕ
  pub read : ℕ
  pub out : List ℕ
  pub events : ℕ
  pub moments : List Moment

-- ---- each of the two states

abbrev pub frame_with : FlowFn → Left → Active → Frame
frame_with f l a = record { function = f; block = a.block; ops = l.ops; end = l.end; temps = l.temps; base = a.base; result = a.result }

abbrev pub first_frame : Active → Frame
first_frame a = frame_with a.function a.first a

abbrev pub second_frame : Active → Frame
second_frame a = frame_with (with_blocks a.function a.blocks) a.second a

abbrev pub machine_with : Frame → List Frame → Twin → Machine
machine_with frame callers x = record {
  frame = frame;
  callers = callers;
  objects = x.objects;
  rest = x.rest;
  read = x.read;
  out = x.out;
  events = x.events;
  moments = x.moments;
}

abbrev pub first_side : Twin → Machine
first_side x = machine_with (first_frame x.frame) (map first_frame x.callers) x

abbrev pub second_side : Twin → Machine
second_side x = machine_with (second_frame x.frame) (map second_frame x.callers) x

-- ---- changes of both

abbrev pub standing : Left → Left → Twin → Twin
standing first second x = record x { frame = record x.frame { first = first; second = second } }

abbrev pub getting : Option ℕ → Value → Left → Left
getting t v l = record l { temps = with_result t v l.temps }

abbrev pub both_getting : Option ℕ → Value → Twin → Twin
both_getting t v x = standing (getting t v x.frame.first) (getting t v x.frame.second) x

-- the same program with other modules
abbrev pub with_modules : Program → List FlowModule → Program
with_modules p ms = record p { modules = ms }
