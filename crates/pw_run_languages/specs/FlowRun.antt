-- The run of a list of flow modules, by small steps. Counted as events are calls, those of the library too, and
-- ends of blocks that go to another block than the next by number.
use Rattle.std.specs.Prelude.{ℕ, zero, suc, ◌+◌, ◌-◌, ◌%◌, ◌==◌, nat_lt, ◌&&◌, Bool, true, false, if◌then◌else◌, Option, Some, None, List, [], ◌∷◌, ◌++◌, length, replicate, slice_set, slice_index_or, sum_by}
use denote.Enum.Bare.{sameb}
use Rattle.pw_value.specs.contracts.value.Kind.{the_type as the_kinds}
use Rattle.pw_value.specs.declared.value.Kind.{Kind}
use Rattle.pw_value.specs.declared.value.Value.{Value}
use Rattle.pw_value.specs.declared.value.Value.TheVariants.{Undefined, Num, At}
use Rattle.pw_value.specs.declared.value.Byte.TheVariants as B
use Rattle.pw_value.specs.Objects.{Object, with_object, ended}
use Rattle.pw_value.specs.ProgramNames.{start_name}
use Rattle.pw_value.specs.Words.{end_of_input}
use Rattle.pw_flow.specs.declared.flow.Op.{Op}
use Rattle.pw_flow.specs.declared.flow.End.{End}
use Rattle.pw_flow.specs.declared.flow.End.TheVariants.{Jump, Branch, Return}
use Rattle.pw_flow.specs.declared.flow.Block.{Block}
use Rattle.pw_flow.specs.declared.flow.FlowGlobal.{FlowGlobal}
use Rattle.pw_flow.specs.declared.flow.FlowFn.{FlowFn}
use Rattle.pw_run.specs.Runs.{View, Stage, Going, Over, Wrong, Ended, StackFull}
use Rattle.pw_run.specs.Runs as run
use Rattle.pw_run_languages.specs.Values.{binary, is_somewhere}
use Rattle.pw_run_languages.specs.Memory.{is_of_kind, look, look_in, poke, poke_in, copy}
use Rattle.pw_run_languages.specs.Programs.{Program, Library, GetChar, PutChar, Exit, library_at, function_named, block_at, global_named, global_number, start_objects}
use Rattle.pw_run_languages.specs.Commands.{Command, Give, Combine, Look, Poke, Copied, GetGlobal, PutGlobal, Enter, Fail, command}

-- ---- the state

-- A function that is active: what is left of the block that it is in, what its temporaries hold, the number of the
-- object of its first slot, and the temporary of its caller that gets its result.
pub record Frame : Type 0 where
  pub function : FlowFn
  pub block : ℕ
  pub ops : List Op
  pub end : End
  pub temps : List Value
  pub base : ℕ
  pub result : Option ℕ

-- a call of a function that a module defines, or the return from it, and the objects then
pub data Moment : Type 0 where
  Called : List ℕ → List Object → Moment
  Returned : List ℕ → List Object → Moment

pub record Machine : Type 0 where
  pub frame : Frame
  -- the latest first
  pub callers : List Frame
  pub objects : List Object
  pub rest : List ℕ
  pub read : ℕ
  pub out : List ℕ
  pub events : ℕ
  -- the latest first
  pub moments : List Moment

pub data Step : Type 0 where
  On : Machine → Step
  Stopped : run.End → Machine → Step
  Astray : Step

-- ---- parts of a step

abbrev pub value_in : Frame → ℕ → Value
value_in f t = slice_index_or f.temps t Undefined

abbrev pub with_temp : ℕ → Value → Machine → Machine
with_temp t v m = record m { frame = record m.frame { temps = slice_set m.frame.temps t v } }

-- where a value or new objects are wanted and there are none, the run goes astray
abbrev pub gives : ℕ → Option Value → Machine → Step
gives t (Some v) m = On (with_temp t v m)
gives t None m = Astray

abbrev pub changes : Option (List Object) → Machine → Step
changes (Some objects) m = On (record m { objects = objects })
changes None m = Astray

abbrev pub counted : Machine → Machine
counted m = record m { events = m.events + 1 }

-- ---- global objects

-- a scalar global is read and written by its own kind alone
abbrev pub is_own_kind : Program → List ℕ → Kind → Bool
is_own_kind p g k = is_own (global_named p g)
  where
    same : Option Kind → Bool
    same (Some own) = sameb the_kinds own k
    same None = false

    is_own : Option FlowGlobal → Bool
    is_own (Some global) = same global.kind
    is_own None = false

abbrev pub get_global : Program → List ℕ → Kind → List Object → Option Value
get_global p g k objects = if is_own_kind p g k then get_at (global_number p g) else None
  where
    get_at : Option ℕ → Option Value
    get_at (Some o) = look_in k o 0 objects
    get_at None = None

-- what is written is given back when the object is read
abbrev pub put_global : Program → List ℕ → Kind → Value → List Object → Option (List Object)
put_global p g k v objects = if is_own_kind p g k && is_of_kind k v then put_at (global_number p g) else None
  where
    put_at : Option ℕ → Option (List Object)
    put_at (Some o) = poke_in k o 0 v objects
    put_at None = None

-- ---- calls

-- the frames of the active functions
abbrev pub depth : Program → Machine → ℕ
depth p m = p.frame_of m.frame.function.name + sum_by (λ f. p.frame_of f.function.name) m.callers

abbrev pub takes_result : Option ℕ → Value → Machine → Machine
takes_result None v m = m
takes_result (Some t) v m = with_temp t v m

-- the library's functions
abbrev pub calls_library : Library → Option ℕ → List Value → Machine → Step
calls_library GetChar t [] m = reads m.rest
  where
    reads : List ℕ → Step
    reads [] = On (counted (takes_result t (Num end_of_input) m))
    reads (byte ∷ rest) = On (counted (takes_result t (Num byte) (record m { rest = rest; read = m.read + 1 })))
calls_library PutChar t (Num n ∷ []) m =
    On (counted (takes_result t (Num (n % 256)) (record m { out = m.out ++ n % 256 ∷ [] })))
calls_library Exit t (Num n ∷ []) m = Stopped (Ended (n % 256)) m
calls_library g t args m = Astray

-- the slots of a function are new objects without values
abbrev pub with_slots : List ℕ → List Object → List Object
with_slots [] objects = objects
with_slots (size ∷ rest) objects =
    with_slots rest (with_object (record { bytes = replicate size B.Undefined; live = true; writable = true }) objects)

-- what a function's temporaries hold at its start: the arguments, and nothing
abbrev pub start_temps : FlowFn → List Value → List Value
start_temps f args = args ++ replicate (f.temps - length args) Undefined

-- A function is entered at its first block.
abbrev pub entered : FlowFn → Block → Option ℕ → List Value → Machine → Machine
entered f b t args m = record m {
  frame = record {
    function = f;
    block = 0;
    ops = b.ops;
    end = b.end;
    temps = start_temps f args;
    base = length m.objects;
    result = t;
  };
  callers = m.frame ∷ m.callers;
  objects = with_slots f.slots m.objects;
  moments = Called f.name m.objects ∷ m.moments;
}

-- Where the frames of the active functions and its own exceed the stack, the run stops before the call.
abbrev pub calls_defined : Program → FlowFn → Option ℕ → List Value → Machine → Step
calls_defined p f t args m =
    if nat_lt p.stack (p.frame_of f.name + depth p m) then Stopped StackFull m
    else begins (block_at f 0)
  where
    begins : Option Block → Step
    begins (Some b) = if length args == f.params then On (counted (entered f b t args m)) else Astray
    begins None = Astray

abbrev pub calls : Program → Option ℕ → List ℕ → List Value → Machine → Step
calls p t f args m = calls_by (library_at f) (function_named p f)
  where
    calls_by : Option Library → Option FlowFn → Step
    calls_by (Some g) defined =
        if nat_lt p.stack (p.frame_of f + depth p m) then Stopped StackFull m else calls_library g t args m
    calls_by None (Some defined) = calls_defined p defined t args m
    calls_by None None = Astray

-- ---- the end of a block

abbrev pub jumps : ℕ → Machine → Step
jumps b m = to_block (block_at m.frame.function b)
  where
    goes : Block → Machine
    goes next = record m { frame = record m.frame { block = b; ops = next.ops; end = next.end } }

    to_block : Option Block → Step
    to_block (Some next) = On (if b == m.frame.block + 1 then goes next else counted (goes next))
    to_block None = Astray

-- 0 goes one way, every other number and every pointer that leads anywhere the other
abbrev pub branches : Value → ℕ → ℕ → Machine → Step
branches (Num zero) b c m = jumps c m
branches (Num (suc n)) b c m = jumps b m
branches (At p) b c m = if is_somewhere m.objects p then jumps b m else Astray
branches v b c m = Astray

-- all objects that were made from a number on end
abbrev pub end_from : ℕ → ℕ → List Object → List Object
end_from zero o objects = objects
end_from (suc more) o objects = end_from more (suc o) (ended o objects)

abbrev pub returns : Option ℕ → Machine → Step
returns t m = returns_to m.callers
  where
    value : Value
    value = value_of t
      where
        value_of : Option ℕ → Value
        value_of (Some t) = value_in m.frame t
        value_of None = Undefined

    left : List Object
    left = end_from (length m.objects - m.frame.base) m.frame.base m.objects

    returns_to : List Frame → Step
    returns_to [] = Astray
    returns_to (caller ∷ callers) = On (takes_result m.frame.result value (record m {
      frame = caller;
      callers = callers;
      objects = left;
      moments = Returned m.frame.function.name left ∷ m.moments;
    }))

abbrev pub ends : End → Machine → Step
ends (Jump b) m = jumps b m
ends (Branch a b c) m = branches (value_in m.frame a) b c m
ends (Return t) m = returns t m

-- ---- a step, and runs

abbrev pub obeys : Program → Command → Machine → Step
obeys p (Give t v) m = On (with_temp t v m)
obeys p (Combine k t v w) m = gives t (binary m.objects k v w) m
obeys p (Look k t a) m = gives t (look k a m.objects) m
obeys p (Poke k a v) m = changes (poke k a v m.objects) m
obeys p (Copied to from size unit) m = changes (copy to from size unit m.objects) m
obeys p (GetGlobal t g k) m = gives t (get_global p g k m.objects) m
obeys p (PutGlobal g k v) m = changes (put_global p g k v m.objects) m
obeys p (Enter t f args) m = calls p t f args m
obeys p Fail m = Astray

-- the next operation of the block, or its end
unfoldable pub step : Program → Machine → Step
step p m = next m.frame.ops
  where
    next : List Op → Step
    next [] = ends m.frame.end m
    next (o ∷ ops) = obeys p (command p m.frame.base o (value_in m.frame)) (record m { frame = record m.frame { ops = ops } })

abbrev pub goes_on : Program → Step → Step
goes_on p (On m) = step p m
goes_on p (Stopped end m) = Stopped end m
goes_on p Astray = Astray

-- so many steps, the last of them at the end
unfoldable pub steps : Program → ℕ → Step → Step
steps p zero s = s
steps p (suc n) s = steps p n (goes_on p s)

-- `$start` is active from the start
abbrev pub start : Program → List ℕ → Step
start p input = starts (function_named p start_name)
  where
    begins : FlowFn → Option Block → Step
    begins f None = Astray
    begins f (Some b) = On (record {
      frame = record {
        function = f;
        block = 0;
        ops = b.ops;
        end = b.end;
        temps = start_temps f [];
        base = length (start_objects p);
        result = None;
      };
      callers = [];
      objects = with_slots f.slots (start_objects p);
      rest = input;
      read = 0;
      out = [];
      events = 0;
      moments = [];
    })

    starts : Option FlowFn → Step
    starts (Some f) = begins f (block_at f 0)
    starts None = Astray

-- ---- as it is seen from outside

abbrev pub shown : Machine → View Moment
shown m = record { output = m.out; read = m.read; events = m.events; log = m.moments }

abbrev pub staged : Step → Stage Moment
staged (On m) = Going (shown m)
staged (Stopped end m) = Over end (shown m)
staged Astray = Wrong

unfoldable pub flow_run : Program → List ℕ → ℕ → Stage Moment
flow_run p input n = staged (steps p n (start p input))
