-- A state of the run of lines, and the machine after so many steps that shows it.
use Rattle.std.specs.Prelude.{ℕ, ◌≡◌, ◌+◌, ◌*◌, ◌≤◌, ◌<◌, true, false, Option, Some, None, List, [], ◌∷◌, Contains, find, length, ◌++◌}
use Rattle.std.specs.Str.{bytes_eq}
use Rattle.std.specs.List.{AllByRecursion}
use Rattle.pw_value.specs.Limits.{word_limit}
use Rattle.pw_value.specs.ProgramNames.{exit_name, getchar_name, putchar_name}
use Rattle.pw_inst.specs.declared.Inst.{Inst}
use Rattle.pw_inst.specs.declared.Inst.TheVariants.{Combf, Break, Bv}
use Rattle.pw_inst.specs.InstructionTable.{IsInRange}
use Rattle.pw_inst.specs.declared.relocation.Symbol.TheVariants as symbol
use Rattle.pw_delay.specs.declared.items.Word.{Word}
use Rattle.pw_delay.specs.declared.items.Turn.TheVariants.{Back, Goto, If, CallTo, CallReg, Leave}
use Rattle.pw_delay.specs.declared.items.Item.{Item}
use Rattle.pw_delay.specs.declared.items.Item.TheVariants.{Plain, Turns, Mark}
use Rattle.pw_run_languages.specs.Acts.{settled}
use Rattle.pw_run_languages.specs.Acts as lines
use Rattle.pw_run_languages.specs.LineRun.{LineFn, Frame, Machine, name_of, left_behind, IsCalling, return_address}
use Rattle.pw_run_languages.specs.MachineRun.{Call, Noted, function_at}
use Rattle.pw_law_link_run.specs.Steps.{Setting, map_in, fetched, IsInText, IsSetting, At, is_back, IsQuiet}
use Rattle.pw_law_link_run.specs.Slots.{IsSlotFit, LeavesRegister}
use Rattle.pw_law_link_run.specs.Placing.{name_in, own_address, words_of, Stands, Parts, IsLeft}

-- ---- the calls that are active, by the frames of the lines

-- a call leads back to where its caller is left; the first one to nowhere
abbrev pub link_of : Setting → List Frame → ℕ
link_of x [] = 0
link_of x (caller ∷ callers) = return_address x.addresses caller caller.left

abbrev pub call_from : Setting → Frame → List Frame → Call
call_from x f callers = record { function = name_of f; link = link_of x callers; stack = f.stack; before = f.before }

abbrev pub calls_behind : Setting → List Frame → List Call
calls_behind x [] = []
calls_behind x (caller ∷ callers) = call_from x caller callers ∷ calls_behind x callers

abbrev pub calls_from : Setting → Frame → List Frame → List Call
calls_from x f callers = call_from x f callers ∷ calls_behind x callers

abbrev pub noted_by : Setting → Machine → Noted
noted_by x m = record { calls = calls_from x m.frame m.callers; log = m.trace }

-- ---- code that can run

-- Each word has its fields in range where its address is in it, also in slots; calls of functions put the return address
-- into register 2, those of routines into register 31, where a slot leaves it.
abbrev pub IsFit : Setting → Item → Type 0
IsFit x (Plain word) = (i : Inst) → settled x.addresses word ≡ Some i → IsInRange i
IsFit x (Mark b) = Unit {0}
IsFit x (Turns (Back (Combf k r s disp)) slot) = IsInRange (Combf k r s disp) × IsSlotFit x slot
IsFit x (Turns (Back i) slot) = ⊥
IsFit x (Turns (Goto b) slot) = IsSlotFit x slot
IsFit x (Turns (If r b) slot) = IsSlotFit x slot
IsFit x (Turns (CallTo (symbol.Named f) link) slot) = (link ≡ 2) × IsSlotFit x slot
IsFit x (Turns (CallTo (symbol.Routine k) link) slot) = (link ≡ 31) × IsSlotFit x slot × LeavesRegister x 31 slot × (k < 5)
IsFit x (Turns (CallTo s link) slot) = ⊥
IsFit x (Turns CallReg slot) = IsSlotFit x slot
IsFit x (Turns Leave slot) = IsSlotFit x slot

-- the functions stand in the text
pub record IsLinked (x : Setting) : Type 0 where
  pub setting : IsSetting x
  pub few : x.start.core.text ≤ word_limit
  pub stands : (f : LineFn) → Contains x.program.functions f → Stands x f
  pub fits : (f : LineFn) → Contains x.program.functions f → AllByRecursion (IsFit x) f.items
  -- a function is found by its name, and by its address
  pub found : (f : LineFn) → Contains x.program.functions f → find (λ g. bytes_eq g.body.name (name_in f)) (map_in x).functions ≡ Some f.located
  pub entries : (f : LineFn) → Contains x.program.functions f → function_at (map_in x) (own_address x f) ≡ Some (name_in f)

-- ---- the machine shows a state

-- a caller is left behind a call, at the address to which that returns
pub record IsCaller (x : Setting) (f : Frame) : Type 0 where
  pub there : Contains x.program.functions f.function
  pub before : List Item
  pub call : Item
  pub parts : Parts f.function before (call ∷ f.left)
  pub calling : IsCalling call
  pub at : return_address x.addresses f f.left ≡ own_address x f.function + 4 * words_of x f.function (before ++ call ∷ [])

pub record Simulates (x : Setting) (m : Machine) (k : ℕ) : Type 0 where
  pub address : ℕ
  pub at : At x k m.core address (address + 4) m.rest m.out (noted_by x m)
  pub there : Contains x.program.functions m.frame.function
  pub left : IsLeft x m.frame.function m.frame.left address
  pub callers : AllByRecursion (IsCaller x) m.callers
  pub events : m.events ≤ k
  -- what was read and what is left are the input
  pub read : m.read + length m.rest ≡ length x.start.rest

-- nothing returns and nothing is called where the lines are
abbrev pub IsCalm : Setting → Machine → Type 0
IsCalm x m = (a : ℕ) → IsLeft x m.frame.function m.frame.left a → IsQuiet x m.core a (calls_from x m.frame m.callers)

-- nor at the words behind it, up to so many
abbrev pub IsCalmInside : Setting → Machine → ℕ → Type 0
IsCalmInside x m words =
    (a j : ℕ) → IsLeft x m.frame.function m.frame.left a → 1 ≤ j → j < words → IsQuiet x m.core (a + 4 * j) (calls_from x m.frame m.callers)

-- ---- returns

-- no call returns at the word behind a return, which is passed over
abbrev pub IsCalmBehind : Setting → Machine → Type 0
IsCalmBehind x m =
    (a : ℕ) → IsLeft x m.frame.function m.frame.left a → AllByRecursion (λ call. is_back m.core (a + 4) call ≡ false) (calls_from x m.frame m.callers)

-- nor at the word in its slot, where it has one
abbrev pub IsCalmPast : Setting → Machine → Option Word → Type 0
IsCalmPast x m None = IsCalmBehind x m
IsCalmPast x m (Some word) = IsCalmInside x m 2

-- the state at a return, with the callers of the function
abbrev pub leaving : Machine → Option Word → List Item → Frame → List Frame → Machine
leaving m slot rest caller callers = record (left_behind (Turns Leave slot ∷ rest) m) { callers = caller ∷ callers }

-- ---- the library

-- the two words of a function of the library: it asks by a BREAK of a number, and returns
pub record IsAsking (x : Setting) (a i : ℕ) : Type 0 where
  pub first : IsInText x a
  pub second : IsInText x (a + 4)
  pub behind : IsInText x (a + 4 + 4)
  pub asks : fetched x a ≡ Some (Break 0 i)
  pub leaves : fetched x (a + 4) ≡ Some (Bv 2 true)

-- one that answers stands where its name does; no function is at its second word, and no call returns there or behind it
pub record HasAsking (x : Setting) (f : List ℕ) (i : ℕ) : Type 0 where
  pub words : IsAsking x (x.addresses.named f) i
  pub entry : function_at (map_in x) (x.addresses.named f) ≡ Some f
  pub second : function_at (map_in x) (x.addresses.named f + 4) ≡ None
  pub apart : (g : Frame) → IsCaller x g → return_address x.addresses g g.left < x.addresses.named f

pub record HasLibrary (x : Setting) : Type 0 where
  pub getchar : HasAsking x getchar_name 1
  pub putchar : HasAsking x putchar_name 2
  pub exit : HasAsking x exit_name 3

-- ---- calls

-- the stack pointer is above those of all active calls, so that none returns here
abbrev pub IsHigh : Setting → Machine → Type 0
IsHigh x m = AllByRecursion (λ call. call.stack < lines.register m.core 30) (calls_from x m.frame m.callers)
