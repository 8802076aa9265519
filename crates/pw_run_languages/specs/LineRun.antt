-- The run of lines: of items, that is words, turns of control with what stands in their delay slots, and places
-- where blocks begin. Registers and memory hold words. Counted as events are calls, conditional branches that are
-- taken, and jumps to blocks that do not begin at the next line.
use Rattle.std.specs.Prelude.{ℕ, zero, suc, ℤ, negsuc, ◌+◌, ◌-◌, ◌*◌, ◌/◌, ◌%◌, ◌^◌, ◌==◌, nat_lt, nat_le, ◌&&◌, Bool, true, false, if◌then◌else◌, Option, Some, None, List, [], ◌∷◌, ◌++◌, map, find, length, drop, take, count_by, int_div, int_rem}
use Rattle.std.specs.List.{flat_map, list_all}
use Rattle.std.specs.Str.{bytes_eq}
use Rattle.std.specs.Int.{to_be_bytes, cast_signed, cast_unsigned, w32}
use Rattle.pw_value.specs.ProgramNames.{start_name, exit_name, getchar_name, putchar_name, library_functions}
use Rattle.pw_inst.specs.declared.Inst.{Inst}
use Rattle.pw_inst.specs.declared.Inst.TheVariants.{Combf}
use Rattle.pw_inst.specs.declared.relocation.Symbol.TheVariants as symbol
use Rattle.pw_flow.specs.declared.flow.FlowGlobal.{FlowGlobal}
use Rattle.pw_flow.specs.declared.flow.Item.{Item as FlowItem}
use Rattle.pw_flow.specs.declared.flow.Item.TheVariants.{Bytes, Address}
use Rattle.pw_db.specs.Limits.{kept_registers}
use Rattle.pw_alloc.specs.declared.located.Located.{Located}
use Rattle.pw_inst.specs.Computing.{condition}
use Rattle.pw_delay.specs.declared.items.Word.{Word}
use Rattle.pw_delay.specs.declared.items.Turn.{Turn}
use Rattle.pw_delay.specs.declared.items.Item.{Item}
use Rattle.pw_delay.specs.declared.items.Turn.TheVariants.{Back, Goto, If, CallTo, CallReg, Leave}
use Rattle.pw_delay.specs.declared.items.Item.TheVariants.{Plain, Turns, Mark}
use Rattle.pw_run.specs.Runs.{View, Stage, Going, Over, Wrong, Ended, StackFull}
use Rattle.pw_run.specs.Runs as run
use Rattle.pw_run_languages.specs.Traces.{Standing, Event, Called, Returned, Loaded, Stored, with_refusal, touches}
use Rattle.pw_run_languages.specs.Programs.{Program, Library, GetChar, PutChar, Exit, library_at, globals_of}
use Rattle.pw_run_languages.specs.Addresses.{Addresses}
use Rattle.pw_run_languages.specs.Acts.{Core, register, put, with_register, Act, Acts, Full, Fails, acts, settled, loaded_at, stored_at}
use Rattle.pw_run_languages.specs.Standing.{Active, globals_now}

-- ---- programs and their state

pub record LineFn : Type 0 where
  pub located : Located
  pub items : List Item

pub record LineProgram : Type 0 where
  pub flow : Program
  pub functions : List LineFn
  pub eligible : List (List ℕ)

-- An active function: what is left of its items, and the stack pointer and the kept registers at its call.
pub record Frame : Type 0 where
  pub function : LineFn
  pub left : List Item
  pub stack : ℕ
  pub before : List ℕ

pub record Machine : Type 0 where
  pub core : Core
  pub frame : Frame
  pub callers : List Frame
  pub rest : List ℕ
  pub read : ℕ
  pub out : List ℕ
  pub events : ℕ
  pub trace : List (Event ℕ ℕ)

pub data Step : Type 0 where
  On : Machine → Step
  Stopped : run.End → Machine → Step
  Astray : Step

abbrev pub name_of : Frame → List ℕ
name_of f = f.function.located.body.name

abbrev pub function_named : LineProgram → List ℕ → Option LineFn
function_named p name = find (λ f. bytes_eq f.located.body.name name) p.functions

abbrev pub active : Frame → Active
active f = record { function = f.function.located; stack = f.stack; before = f.before }

abbrev pub kept : Core → List ℕ
kept c = map c.registers kept_registers

abbrev pub counted : Machine → Machine
counted m = record m { events = m.events + 1 }

abbrev pub left_behind : List Item → Machine → Machine
left_behind items m = record m { frame = record m.frame { left = items } }

-- the globals, where these functions are active
abbrev pub globals_in : LineProgram → Addresses → Core → List Frame → List (Standing ℕ ℕ)
globals_in p w c frames = globals_now p.flow w.named c.memory c.registers (map active frames)

-- ---- words

-- loads and stores of eligible globals are noted
abbrev pub accesses : LineProgram → Addresses → Option Inst → Core → List (Event ℕ ℕ)
accesses p w None c = []
accesses p w (Some i) c = if c.skip then [] else flat_map accesses_of (globals_of p.flow)
  where
    is_eligible : FlowGlobal → Bool
    is_eligible g = nat_lt 0 (count_by (bytes_eq g.name) p.eligible)

    accesses_of : FlowGlobal → List (Event ℕ ℕ)
    accesses_of g =
        (if is_eligible g && touches (loaded_at i c) (w.named g.name) g.size then Loaded g.name ∷ [] else [])
        ++ (if is_eligible g && touches (stored_at i c) (w.named g.name) g.size then Stored g.name ∷ [] else [])

abbrev pub went_on : LineProgram → Addresses → Option Inst → Act → Machine → Step
went_on p w i (Acts c) m = On (record m { core = c; trace = accesses p w i m.core ++ m.trace })
went_on p w i Full m = Stopped StackFull m
went_on p w i Fails m = Astray

abbrev pub does : LineProgram → Addresses → Word → Machine → Step
does p w word m = went_on p w (settled w word) (acts w (settled w word) m.core) m

-- ---- turns

abbrev pub and_then : Step → (Machine → Step) → Step
and_then (On m) next = next m
and_then (Stopped end m) next = Stopped end m
and_then Astray next = Astray

-- the word in the slot acts before the target is reached
abbrev pub through_slot : LineProgram → Addresses → Option Word → (Machine → Step) → Machine → Step
through_slot p w None next m = next m
through_slot p w (Some word) next m = and_then (does p w word m) next

-- the items from where a block begins
abbrev pub from_mark : ℕ → List Item → Option (List Item)
from_mark b [] = None
from_mark b (Mark n ∷ rest) = if n == b then Some rest else from_mark b rest
from_mark b (item ∷ rest) = from_mark b rest

abbrev pub goes_to : Option (List Item) → Machine → Step
goes_to (Some items) m = On (left_behind items m)
goes_to None m = Astray

abbrev pub to_block : ℕ → Machine → Step
to_block b m = goes_to (from_mark b m.frame.function.items) m

-- A loop inside a block goes back over so many words, none of which is a turn.
abbrev pub is_plain : Item → Bool
is_plain (Plain word) = true
is_plain _ = false

abbrev pub back_over : ℕ → List Item → List Item → Option (List Item)
back_over n left items = back_at (drop (length items - (length left + n)) items)
  where
    back_at : List Item → Option (List Item)
    back_at from = if nat_le (length left + n) (length items) && list_all is_plain (take n from) then Some from else None

-- over how many words a branch goes back whose displacement counts from two words behind it
abbrev pub words_back : ℤ → Option ℕ
words_back (negsuc (suc k)) = Some k
words_back _ = None

abbrev pub goes_back : Option ℕ → List Item → Machine → Step
goes_back (Some n) here m = goes_to (back_over n here m.frame.function.items) m
goes_back None here m = Astray

-- how many turns are left
abbrev pub is_turn : Item → Bool
is_turn (Turns turn slot) = true
is_turn _ = false

abbrev pub turns : List Item → ℕ
turns items = count_by is_turn items

-- a call with its slot, behind which the caller goes on
abbrev pub IsCalling : Item → Type 0
IsCalling (Turns (CallTo s link) slot) = Unit {0}
IsCalling (Turns CallReg slot) = Unit {0}
IsCalling _ = ⊥

-- the return address of a call behind which these items are left
abbrev pub return_address : Addresses → Frame → List Item → ℕ
return_address w f items = w.behind (name_of f) (turns items)

-- ---- calls

abbrev pub notes_call : LineProgram → Addresses → List ℕ → Machine → Machine
notes_call p w f m =
    record m { trace = Called f (globals_in p w m.core (m.frame ∷ m.callers)) (kept m.core) ∷ m.trace }

abbrev pub enters : LineProgram → Addresses → LineFn → Machine → Machine
enters p w f m = record (counted (notes_call p w f.located.body.name m)) {
  frame = record { function = f; left = f.items; stack = register m.core 30; before = kept m.core };
  callers = m.frame ∷ m.callers;
}

-- a function of the library returns at once, with what it gives in register 28
abbrev pub answers : LineProgram → Addresses → List ℕ → ℕ → Machine → Step
answers p w f answer m =
    let c = with_register 28 answer m.core in
    On (record (counted m) {
      core = c;
      trace = Returned f 0 (globals_in p w c (m.frame ∷ m.callers)) (kept m.core) (kept c) ∷ m.trace;
    })

abbrev pub library : LineProgram → Addresses → Library → Machine → Step
library p w GetChar m = reads m.rest
  where
    reads : List ℕ → Step
    reads [] = answers p w getchar_name (2 ^ 32 - 1) (notes_call p w getchar_name m)
    reads (byte ∷ rest) = answers p w getchar_name byte (record (notes_call p w getchar_name m) { rest = rest; read = m.read + 1 })
library p w PutChar m =
    let byte = register m.core 26 % 256 in
    answers p w putchar_name byte (record (notes_call p w putchar_name m) { out = m.out ++ byte ∷ [] })
library p w Exit m = Stopped (Ended (register m.core 26 % 256)) (notes_call p w exit_name m)

-- a function of a name is called; its return address stands in register 2
abbrev pub calls : LineProgram → Addresses → ℕ → List ℕ → Machine → Step
calls p w to f m = if register m.core 2 == to then calls_by (library_at f) (function_named p f) else Astray
  where
    calls_by : Option Library → Option LineFn → Step
    calls_by (Some g) defined = library p w g m
    calls_by None (Some defined) = On (enters p w defined m)
    calls_by None None = Astray

-- ---- routines

-- what a routine makes of the words in registers 26 and 25, where there is a result
abbrev pub of_signed : (ℤ → ℤ → ℤ) → ℕ → ℕ → Option ℕ
of_signed f a zero = None
of_signed f a (suc b) = Some (cast_unsigned w32 (f (cast_signed w32 a) (cast_signed w32 (suc b))))

abbrev pub of_unsigned : (ℕ → ℕ → ℕ) → ℕ → ℕ → Option ℕ
of_unsigned f a zero = None
of_unsigned f a (suc b) = Some (f a (suc b))

abbrev pub result_of : ℕ → ℕ → ℕ → Option ℕ
result_of k a b =
    if k == 0 then of_signed int_div a b else
    if k == 1 then of_unsigned (λ x y. x / y) a b else
    if k == 2 then Some (a * b % 2 ^ 32) else
    if k == 3 then of_signed int_rem a b else of_unsigned (λ x y. x % y) a b

-- the registers that a routine leaves with words of its own
abbrev pub scratch_registers : List ℕ
scratch_registers = 1 ∷ 21 ∷ 22 ∷ 25 ∷ 26 ∷ 28 ∷ 29 ∷ []

abbrev pub with_scratch : (ℕ → ℕ) → List ℕ → (ℕ → ℕ) → ℕ → ℕ
with_scratch words [] registers = registers
with_scratch words (r ∷ rest) registers = with_scratch words rest (put r (words r % 2 ^ 32) registers)

abbrev pub with_result : Option ℕ → (ℕ → ℕ) → ℕ → ℕ
with_result (Some n) registers = put 29 n registers
with_result None registers = registers

-- The words that routines leave in scratch registers are any, by the routine and the registers at its first word.
abbrev pub routine : (ℕ → (ℕ → ℕ) → ℕ → ℕ) → ℕ → Machine → Step
routine scratch k m = On (record m {
  core = record m.core {
    registers = with_result (result_of k (register m.core 26) (register m.core 25))
        (with_scratch (scratch k m.core.registers) scratch_registers m.core.registers);
  };
})

-- ---- the turns

abbrev pub linked : ℕ → ℕ → Machine → Machine
linked r address m = record m { core = with_register r address m.core }

-- the function that stands at an address
abbrev pub function_at : LineProgram → Addresses → ℕ → Option (List ℕ)
function_at p w a = find (λ f. w.named f == a) (library_functions ++ map (λ f. f.located.body.name) p.functions)

abbrev pub calls_at : LineProgram → Addresses → ℕ → Option (List ℕ) → Machine → Step
calls_at p w to (Some f) m = calls p w to f m
calls_at p w to None m = Astray

-- the return: to the address that was given at the call, with the stack pointer as it was
abbrev pub returns : LineProgram → Addresses → ℕ → Machine → Step
returns p w to m = returns_to m.callers
  where
    given_back : Frame → List Frame → Step
    given_back caller callers = On (record m {
      frame = caller;
      callers = callers;
      trace = Returned (name_of m.frame) 0 (globals_in p w m.core (caller ∷ callers)) m.frame.before (kept m.core) ∷ m.trace;
    })

    returns_to : List Frame → Step
    returns_to [] = Astray
    returns_to (caller ∷ callers) =
        if (to == return_address w caller caller.left) && (register m.core 30 == m.frame.stack)
        then given_back caller callers else Astray

abbrev pub is_taken : Inst → Core → Bool
is_taken (Combf k r1 r2 disp) c = if condition k (register c r1) (register c r2) then false else true
is_taken i c = false

abbrev pub distance : Inst → Option ℕ
distance (Combf k r1 r2 disp) = words_back disp
distance i = None

-- by what is left behind the turn, and what is left with it
abbrev pub turned : LineProgram → Addresses → (ℕ → (ℕ → ℕ) → ℕ → ℕ) → Turn → Option Word → List Item → List Item → Machine → Step
turned p w scratch (Back branch) slot here behind m =
    if is_taken branch m.core
    then through_slot p w slot (goes_back (distance branch) here) (counted m)
    else through_slot p w slot On (left_behind behind m)
turned p w scratch (Goto b) slot here behind m = through_slot p w slot (to_block b) (counted m)
turned p w scratch (If r b) slot here behind m =
    if register m.core r == 0
    then through_slot p w slot On (left_behind behind m)
    else through_slot p w slot (to_block b) (counted m)
turned p w scratch (CallTo (symbol.Named f) link) slot here behind m =
    let to = return_address w m.frame behind in
    through_slot p w slot (calls p w to f) (linked link to (left_behind behind m))
turned p w scratch (CallTo (symbol.Routine k) link) slot here behind m =
    through_slot p w slot (routine scratch k) (linked link (return_address w m.frame behind) (left_behind behind m))
turned p w scratch (CallTo s link) slot here behind m = Astray
turned p w scratch CallReg slot here behind m =
    let to = return_address w m.frame behind in
    through_slot p w slot (calls_at p w to (function_at p w (register m.core 22))) (linked 31 to (left_behind behind m))
turned p w scratch Leave slot here behind m = through_slot p w slot (returns p w (register m.core 2)) (left_behind behind m)

-- ---- a step, and runs

unfoldable pub step : LineProgram → Addresses → (ℕ → (ℕ → ℕ) → ℕ → ℕ) → Machine → Step
step p w scratch m = next m.frame.left
  where
    next : List Item → Step
    next [] = Astray
    next (Plain word ∷ rest) = does p w word (left_behind rest m)
    next (Mark b ∷ rest) = On (left_behind rest m)
    next (Turns turn slot ∷ rest) =
        if m.core.skip then Astray else turned p w scratch turn slot (Turns turn slot ∷ rest) rest m

unfoldable pub steps : LineProgram → Addresses → (ℕ → (ℕ → ℕ) → ℕ → ℕ) → ℕ → Step → Step
steps p w scratch zero s = s
steps p w scratch (suc n) s = steps p w scratch n (and_then s (step p w scratch))

-- ---- the start

abbrev pub with_bytes : ℕ → List ℕ → (ℕ → ℕ) → ℕ → ℕ
with_bytes a [] memory = memory
with_bytes a (byte ∷ bytes) memory = with_bytes (a + 1) bytes (put a byte memory)

abbrev pub item_bytes : Addresses → FlowItem → List ℕ
item_bytes w (Bytes bytes) = bytes
item_bytes w (Address name n) = to_be_bytes w32 ((w.named name + n) % 2 ^ 32)

abbrev pub with_items : Addresses → ℕ → List (ℕ × FlowItem) → (ℕ → ℕ) → ℕ → ℕ
with_items w a [] memory = memory
with_items w a (i ∷ items) memory = with_items w a items (with_bytes (a + i.0) (item_bytes w i.1) memory)

-- the memory is 0 but for the items of the global objects
abbrev pub with_globals : Addresses → List FlowGlobal → (ℕ → ℕ) → ℕ → ℕ
with_globals w [] memory = memory
with_globals w (g ∷ gs) memory = with_globals w gs (with_items w (w.named g.name) g.items memory)

-- register 30 points to the stack, and the others are 0
abbrev pub start_core : LineProgram → Addresses → Core
start_core p w = record {
  registers = put 30 w.base (λ r. 0);
  memory = with_globals w (globals_of p.flow) (λ a. 0);
  shift = 0;
  skip = false;
}

abbrev pub start : LineProgram → Addresses → List ℕ → Step
start p w input = starts (function_named p start_name)
  where
    starts : Option LineFn → Step
    starts None = Astray
    starts (Some f) = On (record {
      core = start_core p w;
      frame = record { function = f; left = f.items; stack = w.base; before = kept (start_core p w) };
      callers = [];
      rest = input;
      read = 0;
      out = [];
      events = 0;
      trace = Called start_name (globals_in p w (start_core p w) []) (kept (start_core p w)) ∷ [];
    })

-- ---- as it is seen from outside

abbrev pub shown : Machine → List (Event ℕ ℕ) → View (Event ℕ ℕ)
shown m log = record { output = m.out; read = m.read; events = m.events; log = log }

abbrev pub staged : Step → Stage (Event ℕ ℕ)
staged (On m) = Going (shown m m.trace)
staged (Stopped StackFull m) = Over StackFull (shown m (with_refusal m.trace))
staged (Stopped end m) = Over end (shown m m.trace)
staged Astray = Wrong

unfoldable pub line_run : LineProgram → Addresses → (ℕ → (ℕ → ℕ) → ℕ → ℕ) → List ℕ → ℕ → Stage (Event ℕ ℕ)
line_run p w scratch input n = staged (steps p w scratch n (start p w input))
