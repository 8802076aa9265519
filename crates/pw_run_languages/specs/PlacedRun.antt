-- The run of directed functions whose temporaries have places. A temporary that has a register stands there, and every
-- other by its number in the frame. It differs from the run of flow graphs in this: accesses of a directed global go
-- to its register; a function saves registers at its start and restores them at its end; an entry of a web loads
-- the global at its start, and stores it back at its end where the web writes.
use Rattle.std.specs.Prelude.{ℕ, zero, suc, ◌+◌, ◌-◌, ◌%◌, ◌==◌, nat_lt, nat_le, ◌&&◌, ◌||◌, Bool, true, false, if◌then◌else◌, Option, Some, None, option_map, List, [], ◌∷◌, ◌++◌, map, find, length, replicate, slice_get, slice_set, slice_index_or, sum_by}
use Rattle.std.specs.List.{flat_map, list_any}
use Rattle.std.specs.Option.{option_or}
use Rattle.std.specs.Str.{bytes_eq}
use Rattle.pw_value.specs.declared.value.Kind.{Kind}
use Rattle.pw_value.specs.declared.value.Value.{Value}
use Rattle.pw_value.specs.declared.value.Value.TheVariants.{Undefined, Num, At}
use Rattle.pw_value.specs.declared.value.Byte.{Byte}
use Rattle.pw_value.specs.declared.value.Pointer.TheVariants as P
use Rattle.pw_value.specs.ProgramNames.{start_name, exit_name, getchar_name, putchar_name}
use Rattle.pw_value.specs.Objects.{Object, object_at}
use Rattle.pw_value.specs.Words.{end_of_input}
use Rattle.pw_db.specs.Limits.{last_register, last_temporary, kept_registers}
use Rattle.pw_db.specs.declared.database.Web.{Web}
use Rattle.pw_db.specs.declared.database.Role.{Role}
use Rattle.pw_flow.specs.declared.flow.End.{End}
use Rattle.pw_flow.specs.declared.flow.End.TheVariants.{Jump, Branch, Return}
pub use Rattle.pw_webflow.specs.Direction.{register_of as web_of}
use Rattle.pw_webflow.specs.declared.web.WebOp.{WebOp}
use Rattle.pw_webflow.specs.declared.web.WebOp.TheVariants.{Flow, Read, Write}
use Rattle.pw_webflow.specs.declared.web.WebBlock.{WebBlock}
use Rattle.pw_alloc.specs.declared.located.Place.{Place}
use Rattle.pw_alloc.specs.declared.located.Place.TheVariants.{Slot, Reg}
use Rattle.pw_alloc.specs.declared.located.Located.{Located}
use Rattle.pw_alloc.specs.Allocation.{is_entry}
use Rattle.pw_run.specs.Runs.{View, Stage, Going, Over, Wrong, Ended, StackFull}
use Rattle.pw_run.specs.Runs as run
use Rattle.pw_run_languages.specs.Traces.{Standing, InMemory, InPlace, Event, Called, Refused, Returned, Loaded, Stored}
use Rattle.pw_run_languages.specs.Values.{binary, is_somewhere}
use Rattle.pw_run_languages.specs.Memory.{look, poke, copy}
use Rattle.pw_run_languages.specs.Programs.{Program, Library, GetChar, PutChar, Exit, library_at, globals_of, global_number, start_objects}
use Rattle.pw_run_languages.specs.Commands as command
use Rattle.pw_run_languages.specs.FlowRun.{get_global, put_global, with_slots, end_from}

-- ---- programs and their state

-- the flow modules, their functions under directives and with places, and the globals that a register may hold
pub record PlacedProgram : Type 0 where
  pub flow : Program
  pub functions : List Located
  pub eligible : List (List ℕ)

-- A function that is active: what is left of its block; its temporaries by their numbers; the number of the object
-- of its first slot; where its result goes; what it saved; and what the kept registers held at its call.
pub record Frame : Type 0 where
  pub function : Located
  pub block : ℕ
  pub ops : List WebOp
  pub end : End
  pub temps : List Value
  pub base : ℕ
  pub result : Option ℕ
  pub saved : List (ℕ × Value)
  pub before : List Value

pub record Machine : Type 0 where
  pub frame : Frame
  pub callers : List Frame
  pub registers : ℕ → Value
  pub objects : List Object
  pub rest : List ℕ
  pub read : ℕ
  pub out : List ℕ
  pub events : ℕ
  pub trace : List (Event Byte Value)

pub data Step : Type 0 where
  On : Machine → Step
  Stopped : run.End → Machine → Step
  Astray : Step

abbrev pub name_of : Frame → List ℕ
name_of f = f.function.body.name

abbrev pub function_named : PlacedProgram → List ℕ → Option Located
function_named p name = find (λ f. bytes_eq f.body.name name) p.functions

-- ---- registers

abbrev pub with_register : ℕ → Value → (ℕ → Value) → ℕ → Value
with_register r v registers q = if q == r then v else registers q

abbrev pub with_registers : List (ℕ × Value) → (ℕ → Value) → ℕ → Value
with_registers [] registers = registers
with_registers (new ∷ rest) registers = with_registers rest (with_register new.0 new.1 registers)

abbrev pub kept : (ℕ → Value) → List Value
kept registers = map registers kept_registers

-- ---- temporaries

abbrev pub register_at : List Place → ℕ → Option ℕ
register_at places t = of_place (slice_get places t)
  where
    of_place : Option Place → Option ℕ
    of_place (Some (Reg r)) = Some r
    of_place _ = None

abbrev pub value_in : Frame → (ℕ → Value) → ℕ → Value
value_in f registers t = value_by (register_at f.function.places t)
  where
    value_by : Option ℕ → Value
    value_by (Some r) = registers r
    value_by None = slice_index_or f.temps t Undefined

abbrev pub with_temp : ℕ → Value → Machine → Machine
with_temp t v m = put_by (register_at m.frame.function.places t)
  where
    put_by : Option ℕ → Machine
    put_by (Some r) = record m { registers = with_register r v m.registers }
    put_by None = record m { frame = record m.frame { temps = slice_set m.frame.temps t v } }

abbrev pub gives : ℕ → Option Value → Machine → Step
gives t (Some v) m = On (with_temp t v m)
gives t None m = Astray

abbrev pub takes_result : Option ℕ → Value → Machine → Machine
takes_result None v m = m
takes_result (Some t) v m = with_temp t v m

abbrev pub counted : Machine → Machine
counted m = record m { events = m.events + 1 }

abbrev pub noted : Event Byte Value → Machine → Machine
noted e m = record m { trace = e ∷ m.trace }

-- ---- where the globals stand

-- The latest active function that is in a web of the global finds it in the web's register, as that is when all
-- functions called after it have given back what they saved. A global of which no active function is in a web
-- stands in memory.
abbrev pub held : List ℕ → (ℕ → Value) → List Frame → Option Value
held g registers [] = None
held g registers (f ∷ callers) =
    option_or (option_map registers (web_of f.function.body.directives.webs g)) (held g (with_registers f.saved registers) callers)

abbrev pub standing : Option Value → Object → Standing Byte Value
standing (Some v) object = InPlace v
standing None object = InMemory object.bytes

-- the global objects have the first numbers
abbrev pub standings : List (List ℕ) → ℕ → (ℕ → Value) → List Frame → List Object → List (Standing Byte Value)
standings [] n registers frames objects = []
standings (g ∷ gs) n registers frames objects =
    standing (held g registers frames) (object_at objects n) ∷ standings gs (suc n) registers frames objects

abbrev pub globals_now : PlacedProgram → (ℕ → Value) → List Frame → List Object → List (Standing Byte Value)
globals_now p registers frames objects = standings (map (λ g. g.name) (globals_of p.flow)) 0 registers frames objects

-- ---- global objects and pointers

abbrev pub is_eligible : PlacedProgram → List ℕ → Bool
is_eligible p g = list_any (bytes_eq g) p.eligible

-- loads and stores of eligible globals are noted
abbrev pub noted_if : Bool → Event Byte Value → Machine → Machine
noted_if true e m = noted e m
noted_if false e m = m

abbrev pub loads_global : PlacedProgram → ℕ → List ℕ → Kind → Machine → Step
loads_global p t g k m = gives t (get_global p.flow g k m.objects) (noted_if (is_eligible p g) (Loaded g) m)

abbrev pub stores_global : PlacedProgram → List ℕ → Kind → Value → Machine → Step
stores_global p g k v m = changes (put_global p.flow g k v m.objects)
  where
    changes : Option (List Object) → Step
    changes (Some objects) = On (noted_if (is_eligible p g) (Stored g) (record m { objects = objects }))
    changes None = Astray

-- no pointer leads to a global that a register may hold
abbrev pub is_reserved : PlacedProgram → Value → Bool
is_reserved p (At (P.Object o i)) = list_any (λ g. is_number (global_number p.flow g)) p.eligible
  where
    is_number : Option ℕ → Bool
    is_number (Some n) = n == o
    is_number None = false
is_reserved p v = false

abbrev pub changes : Option (List Object) → Machine → Step
changes (Some objects) m = On (record m { objects = objects })
changes None m = Astray

-- ---- calls

abbrev pub depth : PlacedProgram → List Frame → ℕ
depth p frames = sum_by (λ f. p.flow.frame_of (name_of f)) frames

abbrev pub exceeds : PlacedProgram → List ℕ → List Frame → Bool
exceeds p f frames = nat_lt p.flow.stack (p.flow.frame_of f + depth p frames)

-- a call of the library is a call and a return
abbrev pub library_call : PlacedProgram → List ℕ → Machine → Machine
library_call p f m =
    noted (Called f (globals_now p m.registers (m.frame ∷ m.callers) m.objects) (kept m.registers)) m

abbrev pub library_return : PlacedProgram → List ℕ → Machine → Machine
library_return p f m =
    noted (Returned f 0 (globals_now p m.registers (m.frame ∷ m.callers) m.objects) (kept m.registers) (kept m.registers)) m

-- The temporaries' registers behind those that a callee keeps are kept over no call.
abbrev pub without_scratch : (ℕ → Value) → ℕ → Value
without_scratch registers r = if nat_lt last_register r && nat_le r last_temporary then Undefined else registers r

abbrev pub gives_back : PlacedProgram → List ℕ → Option ℕ → Value → Machine → Step
gives_back p f t v m =
    On (takes_result t v (library_return p f (record (counted m) { registers = without_scratch m.registers })))

abbrev pub calls_library : PlacedProgram → Library → Option ℕ → List Value → Machine → Step
calls_library p GetChar t [] m = reads m.rest
  where
    reads : List ℕ → Step
    reads [] = gives_back p getchar_name t (Num end_of_input) (library_call p getchar_name m)
    reads (byte ∷ rest) =
        gives_back p getchar_name t (Num byte) (record (library_call p getchar_name m) { rest = rest; read = m.read + 1 })
calls_library p PutChar t (Num n ∷ []) m =
    gives_back p putchar_name t (Num (n % 256)) (record (library_call p putchar_name m) { out = m.out ++ n % 256 ∷ [] })
calls_library p Exit t (Num n ∷ []) m = Stopped (Ended (n % 256)) (library_call p exit_name m)
calls_library p g t args m = Astray

-- the webs that a function enters, in the order of their registers
abbrev pub entered_webs : Located → List Web
entered_webs f = flat_map (λ r. flat_map (of_register r) f.body.directives.webs) kept_registers
  where
    of_register : ℕ → Web × Role → List Web
    of_register r w = if is_entry w.1 && (w.0.reg == r) then w.0 ∷ [] else []

abbrev pub and_then : Step → (Machine → Step) → Step
and_then (On m) next = next m
and_then (Stopped end m) next = Stopped end m
and_then Astray next = Astray

-- each of them is loaded
abbrev pub enters : PlacedProgram → Web → Machine → Step
enters p w m = loaded (get_global p.flow w.global w.kind m.objects)
  where
    loaded : Option Value → Step
    loaded (Some v) =
        On (noted_if (is_eligible p w.global) (Loaded w.global) (record m { registers = with_register w.reg v m.registers }))
    loaded None = Astray

abbrev pub enters_webs : PlacedProgram → List Web → Machine → Step
enters_webs p [] m = On m
enters_webs p (w ∷ rest) m = and_then (enters p w m) (enters_webs p rest)

-- and stored back where the web writes
abbrev pub leaves : PlacedProgram → Web → Machine → Step
leaves p w m = if w.writes then stores_global p w.global w.kind (m.registers w.reg) m else On m

abbrev pub leaves_webs : PlacedProgram → List Web → Machine → Step
leaves_webs p [] m = On m
leaves_webs p (w ∷ rest) m = and_then (leaves p w m) (leaves_webs p rest)

-- the registers in which temporaries have places hold nothing at a function's start
abbrev pub without_places : List Place → (ℕ → Value) → ℕ → Value
without_places [] registers = registers
without_places (Reg r ∷ rest) registers = without_places rest (with_register r Undefined registers)
without_places (Slot offset ∷ rest) registers = without_places rest registers

abbrev pub with_parameters : ℕ → List Value → Machine → Machine
with_parameters t [] m = m
with_parameters t (v ∷ vs) m = with_parameters (suc t) vs (with_temp t v m)

-- a function at its first block, before its parameters and webs are there
abbrev pub entered : Located → WebBlock → Option ℕ → Machine → Machine
entered f b t m = record m {
  frame = record {
    function = f;
    block = 0;
    ops = b.ops;
    end = b.end;
    temps = replicate f.body.temps Undefined;
    base = length m.objects;
    result = t;
    saved = map (λ r. (r, m.registers r)) f.saved;
    before = kept m.registers;
  };
  callers = m.frame ∷ m.callers;
  registers = without_places f.places m.registers;
  objects = with_slots f.body.slots m.objects;
}

abbrev pub first_block : Located → Option WebBlock
first_block f = slice_get f.body.blocks 0

abbrev pub begins : PlacedProgram → Located → Option WebBlock → Option ℕ → List Value → Machine → Step
begins p f (Some b) t args m =
    if length args == f.body.params
    then and_then (enters_webs p (entered_webs f) (entered f b t m)) (λ m. On (with_parameters 0 args m))
    else Astray
begins p f None t args m = Astray

abbrev pub calls_defined : PlacedProgram → Located → Option ℕ → List Value → Machine → Step
calls_defined p f t args m =
    if exceeds p f.body.name (m.frame ∷ m.callers) then Stopped StackFull (noted (Refused f.body.name) m)
    else begins p f (first_block f) t args (counted (noted
    (Called f.body.name (globals_now p m.registers (m.frame ∷ m.callers) m.objects) (kept m.registers)) m))

abbrev pub calls : PlacedProgram → Option ℕ → List ℕ → List Value → Machine → Step
calls p t f args m = calls_by (library_at f) (function_named p f)
  where
    calls_by : Option Library → Option Located → Step
    calls_by (Some g) defined =
        if exceeds p f (m.frame ∷ m.callers) then Stopped StackFull (noted (Refused f) m) else calls_library p g t args m
    calls_by None (Some defined) = calls_defined p defined t args m
    calls_by None None = Astray

-- ---- the end of a block

abbrev pub jumps : ℕ → Machine → Step
jumps b m = to_block (slice_get m.frame.function.body.blocks b)
  where
    goes : WebBlock → Machine
    goes next = record m { frame = record m.frame { block = b; ops = next.ops; end = next.end } }

    to_block : Option WebBlock → Step
    to_block (Some next) = On (if b == m.frame.block + 1 then goes next else counted (goes next))
    to_block None = Astray

abbrev pub branches : Value → ℕ → ℕ → Machine → Step
branches (Num zero) b c m = jumps c m
branches (Num (suc n)) b c m = jumps b m
branches (At p) b c m = if is_somewhere m.objects p then jumps b m else Astray
branches v b c m = Astray

-- what was saved is there again, and the caller goes on with the result
abbrev pub given_back : PlacedProgram → Value → Frame → List Frame → Machine → Step
given_back p v caller callers m =
    let registers = without_scratch (with_registers m.frame.saved m.registers) in
    let objects = end_from (length m.objects - m.frame.base) m.frame.base m.objects in
    On (takes_result m.frame.result v (noted
    (Returned (name_of m.frame) 0 (globals_now p registers (caller ∷ callers) objects) m.frame.before (kept registers))
    (record m { frame = caller; callers = callers; registers = registers; objects = objects })))

abbrev pub returns : PlacedProgram → Option ℕ → Machine → Step
returns p t m = and_then (leaves_webs p (entered_webs m.frame.function) m) (returns_to m.callers)
  where
    value : Value
    value = value_of t
      where
        value_of : Option ℕ → Value
        value_of (Some t) = value_in m.frame m.registers t
        value_of None = Undefined

    returns_to : List Frame → Machine → Step
    returns_to [] left = Astray
    returns_to (caller ∷ callers) left = given_back p value caller callers left

abbrev pub ends : PlacedProgram → End → Machine → Step
ends p (Jump b) m = jumps b m
ends p (Branch a b c) m = branches (value_in m.frame m.registers a) b c m
ends p (Return t) m = returns p t m

-- ---- a step, and runs

abbrev pub obeys : PlacedProgram → command.Command → Machine → Step
obeys p (command.Give t v) m = On (with_temp t v m)
obeys p (command.Combine k t v w) m = gives t (binary m.objects k v w) m
obeys p (command.Look k t a) m = if is_reserved p a then Astray else gives t (look k a m.objects) m
obeys p (command.Poke k a v) m = if is_reserved p a then Astray else changes (poke k a v m.objects) m
obeys p (command.Copied to from size unit) m =
    if is_reserved p to || is_reserved p from then Astray else changes (copy to from size unit m.objects) m
obeys p (command.GetGlobal t g k) m = loads_global p t g k m
obeys p (command.PutGlobal g k v) m = stores_global p g k v m
obeys p (command.Enter t f args) m = calls p t f args m
obeys p command.Fail m = Astray

abbrev pub does : PlacedProgram → WebOp → Machine → Step
does p (Flow o) m = obeys p (command.command p.flow m.frame.base o (value_in m.frame m.registers)) m
does p (Read t r) m = On (with_temp t (m.registers r) m)
does p (Write r a) m = On (record m { registers = with_register r (value_in m.frame m.registers a) m.registers })

unfoldable pub step : PlacedProgram → Machine → Step
step p m = next m.frame.ops
  where
    next : List WebOp → Step
    next [] = ends p m.frame.end m
    next (o ∷ ops) = does p o (record m { frame = record m.frame { ops = ops } })

unfoldable pub steps : PlacedProgram → ℕ → Step → Step
steps p zero s = s
steps p (suc n) s = steps p n (and_then s (step p))

-- `$start` is active from the start, and may be an entry of webs itself
abbrev pub start : PlacedProgram → List ℕ → Step
start p input = starts (function_named p start_name)
  where
    objects : List Object
    objects = start_objects p.flow

    nothing : ℕ → Value
    nothing r = Undefined

    begun : Located → WebBlock → Machine
    begun f b = record {
      frame = record {
        function = f;
        block = 0;
        ops = b.ops;
        end = b.end;
        temps = replicate f.body.temps Undefined;
        base = length objects;
        result = None;
        saved = map (λ r. (r, Undefined)) f.saved;
        before = kept nothing;
      };
      callers = [];
      registers = nothing;
      objects = with_slots f.body.slots objects;
      rest = input;
      read = 0;
      out = [];
      events = 0;
      trace = Called start_name (globals_now p nothing [] objects) (kept nothing) ∷ [];
    }

    starts_at : Located → Option WebBlock → Step
    starts_at f None = Astray
    starts_at f (Some b) = enters_webs p (entered_webs f) (begun f b)

    starts : Option Located → Step
    starts (Some f) = starts_at f (first_block f)
    starts None = Astray

-- ---- as it is seen from outside

abbrev pub shown : Machine → View (Event Byte Value)
shown m = record { output = m.out; read = m.read; events = m.events; log = m.trace }

abbrev pub staged : Step → Stage (Event Byte Value)
staged (On m) = Going (shown m)
staged (Stopped end m) = Over end (shown m)
staged Astray = Wrong

unfoldable pub placed_run : PlacedProgram → List ℕ → ℕ → Stage (Event Byte Value)
placed_run p input n = staged (steps p n (start p input))
