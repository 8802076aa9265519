-- The machine after so many steps, in the words of the run of lines.
use Rattle.std.specs.Prelude.{ℕ, ◌≡◌, ◌+◌, ◌*◌, ◌%◌, ◌<◌, ◌≤◌, ◌⊎◌, ◌==◌, ◌&&◌, Bool, true, false, Option, None, List, ◌∷◌, ◌++◌, map, length}
use Rattle.std.specs.List.{AllByRecursion, flat_map}
use Rattle.pw_value.specs.Limits.{text_start}
use Rattle.pw_inst.specs.declared.Inst.{Inst}
use Rattle.pw_inst.specs.InstructionTable.{decoded}
use Rattle.pw_machine.specs.Core.{Core, word_at}
use Rattle.pw_machine.specs.Run.{State, Running, run_of, continued}
use Rattle.pw_law_code.specs.Lawful.{HasSameText, IsLater, state_of}
use Rattle.pw_db.specs.Limits.{kept_registers}
use Rattle.pw_run_languages.specs.Traces.{Event, Standing, Called, Returned}
use Rattle.pw_run_languages.specs.Programs.{globals_of}
use Rattle.pw_alloc.specs.Frames.{head_size}
use Rattle.pw_run_languages.specs.Addresses.{Addresses}
use Rattle.pw_run_languages.specs.Acts as lines
use Rattle.pw_run_languages.specs.Standing.{Active, globals_now}
use Rattle.pw_run_languages.specs.LineRun.{LineProgram}
use Rattle.pw_run_languages.specs.MachineRun as machine
use Rattle.pw_run_languages.specs.MachineRun.{Map, Call, Noted, arrived, function_at}
use Rattle.pw_law_link_run.specs.Showing.{Shows}

-- ---- a program that runs

-- A program of lines with its addresses, and the state in which the machine starts; of each function by its name where
-- its blocks begin, and whether its conditional branches are long.
pub record Setting : Type 0 where
  pub program : LineProgram
  pub addresses : Addresses
  pub start : State
  pub mark : List ℕ → ℕ → ℕ
  pub long : List ℕ → Bool

abbrev pub map_in : Setting → Map
map_in x = record {
  flow = x.program.flow;
  functions = map (λ f. f.located) x.program.functions;
  eligible = x.program.eligible;
  named = x.addresses.named;
}

-- the instruction that stands at an address
abbrev pub fetched : Setting → ℕ → Option Inst
fetched x a = decoded (word_at x.start.core.memory a)

pub record IsInText (x : Setting) (a : ℕ) : Type 0 where
  pub aligned : a % 4 ≡ 0
  pub above : text_start ≤ a
  pub below : a < text_start + 4 * x.start.core.text

-- The data begin where the lines have them, each state of the run is a lawful one, and the text stays; a run that is cut
-- in two is the same, and a state in it has not stopped.
pub record IsSetting (x : Setting) : Type 0 where
  pub starts : x.start.core.data_start ≡ x.addresses.data_start
  pub keeps : (k : ℕ) → IsLater x.start (state_of (run_of k x.start))
  pub words : (new : Core) (a : ℕ) → HasSameText x.start.core new → a + 4 ≤ x.start.core.data_start
      → word_at new.memory a ≡ word_at x.start.core.memory a
  pub sums : (k n : ℕ) → run_of (k + n) x.start ≡ continued n (run_of k x.start)
  pub going : (k : ℕ) (mid : State) → run_of k x.start ≡ Running mid → mid.core.stopped ≡ None

-- ---- after so many steps

-- The machine shows a core of the lines; the instruction at one address is next, and then that at another; so much of
-- the input is left, so much was written, and so much was noted.
pub record At (x : Setting) (k : ℕ) (c : lines.Core) (a b : ℕ) (rest output : List ℕ) (n : Noted) : Type 0 where
  pub core : Core
  pub runs : run_of k x.start ≡ Running (record { core = core; rest = rest; output = output })
  pub notes : machine.noted (map_in x) x.start k ≡ n
  pub shows : Shows c core
  pub front : core.front ≡ a
  pub back : core.back ≡ b

-- The same before what returned there, and what is called there, is noted.
pub record Arrives (x : Setting) (k : ℕ) (c : lines.Core) (a b : ℕ) (rest output : List ℕ) (n : Noted) : Type 0 where
  pub core : Core
  pub runs : run_of k x.start ≡ Running (record { core = core; rest = rest; output = output })
  pub notes : machine.noted (map_in x) x.start k ≡ arrived (map_in x) core n
  pub shows : Shows c core
  pub front : core.front ≡ a
  pub back : core.back ≡ b

-- ---- what it notes on arriving

-- a call has returned where the lines stand at an address
abbrev pub is_back : lines.Core → ℕ → Call → Bool
is_back c a call = (a == call.link) && (lines.register c 30 == call.stack)

-- no call has returned, and none begins
pub record IsQuiet (x : Setting) (c : lines.Core) (a : ℕ) (calls : List Call) : Type 0 where
  pub returns : AllByRecursion (λ call. is_back c a call ≡ false) calls
  pub enters : (c.skip ≡ true) ⊎ (function_at (map_in x) a ≡ None)

abbrev pub with_accesses : List (Event ℕ ℕ) → Noted → Noted
with_accesses es n = record { calls = n.calls; log = es ++ n.log }

-- the globals by the calls that are active
abbrev pub globals_by : Setting → lines.Core → List Call → List (Standing ℕ ℕ)
globals_by x c calls =
    globals_now x.program.flow x.addresses.named c.memory c.registers (flat_map (machine.active_as (map_in x)) calls)

-- what the lines note of a call, and what is kept of it
abbrev pub call_of : lines.Core → List ℕ → Call
call_of c f = record { function = f; link = lines.register c 2; stack = lines.register c 30; before = map c.registers kept_registers }

abbrev pub with_call : Setting → lines.Core → List ℕ → Noted → Noted
with_call x c f n = record {
  calls = call_of c f ∷ n.calls;
  log = Called f (globals_by x c n.calls) (map c.registers kept_registers) ∷ n.log;
}

-- a return from the innermost call
abbrev pub with_return : Setting → lines.Core → Call → List Call → List (Event ℕ ℕ) → Noted
with_return x c call callers log = record {
  calls = callers;
  log = Returned call.function 0 (globals_by x c callers) call.before (map c.registers kept_registers) ∷ log;
}

-- ---- what is saved

-- the words that an active function saved stand from an address on
abbrev pub IsSavedFrom : ℕ → Active → Type 0
IsSavedFrom low a = low + 4 * length a.function.saved + head_size a.function.body ≤ a.stack + a.function.frame

-- the saved words of all active functions, and the globals, stand in the data
pub record AreInData (x : Setting) (calls : List Call) : Type 0 where
  pub saved : AllByRecursion (IsSavedFrom x.addresses.data_start) (flat_map (machine.active_as (map_in x)) calls)
  pub globals : AllByRecursion (λ v. x.addresses.data_start ≤ x.addresses.named v.name) (globals_of x.program.flow)
