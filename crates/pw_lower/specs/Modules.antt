-- Lowering of functions, objects and modules (C90 6.7).
use Rattle.std.specs.Prelude.{ℕ, suc, ◌+◌, if◌then◌else◌, Bool, false, Some, None, List, [], ◌∷◌, ◌++◌, map, length, replicate, bytes_eq}
use Rattle.pw_value.specs.ProgramNames.{start_name, main_name, exit_name, start_shape}
use Rattle.pw_types.specs.Shapes.{shape_of}
use Rattle.pw_types.specs.TypeTrees.{type_of, is_volatile, RecordValue}
use Rattle.pw_types.specs.TypedTrees.{Symbol, External, LocalValue, FunctionValue, ItemValue, ItemBytes, ItemAddress, PlacedItem, GlobalValue, DeclaredValue, ModuleValue}
use Rattle.pw_flow.specs.declared.flow.Item.{Item}
use Rattle.pw_flow.specs.declared.flow.Item.TheVariants as item
use Rattle.pw_flow.specs.declared.flow.FlowGlobal.{FlowGlobal}
use Rattle.pw_flow.specs.declared.flow.FlowFn.{FlowFn}
use Rattle.pw_flow.specs.declared.flow.FlowModule.{FlowModule}
use Rattle.pw_flow.specs.declared.flow.Op.TheVariants as op
use Rattle.pw_flow.specs.declared.flow.End.TheVariants.{Return}
use Rattle.pw_lower.specs.declared.code.Code.{Code}
use Rattle.pw_lower.specs.declared.code.Numbered.{Numbered}
use Rattle.pw_lower.specs.Codes.{temp_of, emit, fresh, cut_here, bare, numbered, blocks_below}
use Rattle.pw_lower.specs.declared.place.LocalPlace.{LocalPlace}
use Rattle.pw_lower.specs.declared.place.LocalPlace.TheVariants.{Temp, Slot}
use Rattle.pw_lower.specs.Places.{places_of, temps_from}
use Rattle.pw_lower.specs.Operators.{kind_of, bytes_of}
use Rattle.pw_types.specs.FullNames.{full_name}
use Rattle.pw_lower.specs.Expressions.{scalar_kind}
use Rattle.pw_lower.specs.Statements.{Frame, lower_statement}

-- ---- functions

-- A parameter that stands in a slot is stored there first, in the order of the parameters.
abbrev pub parameters_stored : List LocalValue → List LocalPlace → ℕ → ℕ → Code → Code
parameters_stored (local ∷ locals) (Slot s ∷ places) k (suc left) c =
    let x = fresh (λ t. op.AddrSlot t s) c in
    parameters_stored locals places (k + 1) left
    (emit (op.Store (scalar_kind (type_of local.ty)) (temp_of x) k) x.code)
parameters_stored (local ∷ locals) (Temp t ∷ places) k (suc left) c = parameters_stored locals places (k + 1) left c
parameters_stored locals places k left c = c

-- Behind the blocks of the labels that a `goto` can name, where there are any, stands a block to which nothing
-- goes, so that each of them is another block than the next by number.
abbrev pub closed_at_start : List ℕ → List Numbered
closed_at_start [] = []
closed_at_start (l ∷ rest) = record { number = length rest + 2; block = bare } ∷ []

abbrev pub blocks_at_start : List ℕ → ℕ
blocks_at_start [] = 1
blocks_at_start (l ∷ rest) = length rest + 3

-- The code at the start. The labels that a `goto` can name have the blocks behind the first, in the order of the
-- text.
abbrev pub start_code : FunctionValue → ℕ → Code
start_code f temps = record {
  closed = closed_at_start f.named;
  cur = 0;
  depth = 0;
  ops = [];
  blocks = blocks_at_start f.named;
  temps = temps;
  labels = numbered 1 f.named (replicate f.labels 0);
}

-- the sizes of the slots, in order
abbrev pub slots_of : List RecordValue → List LocalValue → List LocalPlace → List ℕ
slots_of records (local ∷ locals) (Slot s ∷ places) = bytes_of records (type_of local.ty) ∷ slots_of records locals places
slots_of records (local ∷ locals) (Temp t ∷ places) = slots_of records locals places
slots_of records locals places = []

-- what is the same for the whole function
abbrev pub frame_of : List ℕ → List RecordValue → FunctionValue → Frame
frame_of home records f = record {
  home = record { name = home; records = records; places = places_of f };
  locals = f.locals;
}

-- the code at the beginning of a function: the parameters are where they stand
abbrev pub entered : FunctionValue → Code
entered f = parameters_stored f.locals (places_of f) 0 f.params (start_code f (temps_from f.params (places_of f)))

-- the code of a function, its last block closed; outside a loop nothing goes anywhere by `break` or `continue`
abbrev pub function_code : List ℕ → List RecordValue → FunctionValue → Code
function_code home records f =
    cut_here (Return None) 0
    (lower_statement (frame_of home records f) (record { out = 0; on = 0 }) f.body (entered f))

unfoldable pub lowered_function : List ℕ → List RecordValue → FunctionValue → FlowFn
lowered_function home records f =
    let c = function_code home records f in record {
      name = full_name home f.name;
      shape = shape_of records (type_of f.ty) (is_volatile f.ty);
      params = f.params;
      temps = c.temps;
      slots = slots_of records f.locals (places_of f);
      blocks = blocks_below c.closed c.blocks;
    }

-- what the program starts with: it calls `main`, and passes the result to `exit`
abbrev pub start_function : FlowFn
start_function = record {
  name = start_name;
  shape = start_shape;
  params = 0;
  temps = 1;
  slots = [];
  blocks = record {
    depth = 0;
    ops = op.Call (Some 0) main_name [] ∷ op.Call None exit_name (0 ∷ []) ∷ [];
    end = Return None;
  } ∷ [];
}

abbrev pub is_main : Symbol → Bool
is_main (External x) = bytes_eq x main_name
is_main _ = false

-- it stands last in the module that defines a function `main`
abbrev pub start_of : List FunctionValue → List FlowFn
start_of [] = []
start_of (f ∷ rest) = if is_main f.name then start_function ∷ [] else start_of rest

-- ---- objects

abbrev pub item_of : List ℕ → ItemValue → Item
item_of home (ItemBytes bytes) = item.Bytes bytes
item_of home (ItemAddress s n) = item.Address (full_name home s) n

abbrev pub lowered_item : List ℕ → PlacedItem → ℕ × Item
lowered_item home placed = (placed.offset, item_of home placed.item)

abbrev pub lowered_global : List ℕ → List RecordValue → GlobalValue → FlowGlobal
lowered_global home records g = record {
  name = full_name home g.name;
  size = bytes_of records (type_of g.ty);
  shape = shape_of records (type_of g.ty) (is_volatile g.ty);
  kind = kind_of (type_of g.ty);
  volatile = is_volatile g.ty;
  items = map (lowered_item home) g.items;
}

-- ---- modules

abbrev pub lowered_declared : List RecordValue → DeclaredValue → List ℕ × List ℕ
lowered_declared records d = (d.name, shape_of records (type_of d.ty) (is_volatile d.ty))

-- the flow graph of a module
unfoldable pub lowered : List ℕ → ModuleValue → FlowModule
lowered name m = record {
  name = name;
  globals = map (lowered_global name m.records) m.globals;
  functions = map (lowered_function name m.records) m.functions ++ start_of m.functions;
  declared = map (lowered_declared m.records) m.declared;
}
