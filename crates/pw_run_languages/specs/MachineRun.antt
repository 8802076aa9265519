-- The machine's run with what it notes. A function is called where the next step stands at its address and is not
-- nullified. The call is active until a later step stands at the address that register 2 held at the call, with
-- register 30 as it was then. A step loads or stores a global where its access has a byte of it.
use Rattle.std.specs.Prelude.{ℕ, zero, suc, ◌+◌, ◌-◌, ◌==◌, ◌&&◌, not, nat_lt, Bool, if◌then◌else◌, Option, Some, None, List, [], ◌∷◌, ◌++◌, map, filter, find, length, count_by}
use Rattle.std.specs.List.{flat_map}
use Rattle.std.specs.Str.{bytes_eq}
use Rattle.pw_inst.specs.declared.Inst.{Inst}
use Rattle.pw_inst.specs.InstructionTable.{decoded}
use Rattle.pw_flow.specs.declared.flow.FlowGlobal.{FlowGlobal}
use Rattle.pw_db.specs.Limits.{kept_registers}
use Rattle.pw_alloc.specs.declared.located.Located.{Located}
use Rattle.pw_machine.specs.declared.ends.End.TheVariants as machine
use Rattle.pw_machine.specs.Core.{Core, byte_at, word_at}
use Rattle.pw_machine.specs.Core as core
use Rattle.pw_machine.specs.Run.{State, Progress, Running, Stopped, run_of}
use Rattle.pw_run.specs.Runs.{View, Stage, Going, Over, Wrong, Ended, StackFull}
use Rattle.pw_run_languages.specs.Traces.{Standing, Event, Called, Returned, Loaded, Stored, with_refusal, touches}
use Rattle.pw_run_languages.specs.Traffic.{active}
pub use Rattle.pw_run_languages.specs.ImageTrace.{start_state}
use Rattle.pw_run_languages.specs.ImageTrace.{Symbols}
use Rattle.pw_run_languages.specs.Programs.{Program, names_of, globals_of}
use Rattle.pw_run_languages.specs.Acts as lines
use Rattle.pw_run_languages.specs.Acts.{loaded_at, stored_at}
use Rattle.pw_run_languages.specs.Standing.{Active, globals_now}

-- What is known of the program that runs: its functions with their directives and frames, the globals that a register
-- may hold, and where functions and globals stand.
pub record Map : Type 0 where
  pub flow : Program
  pub functions : List Located
  pub eligible : List (List ℕ)
  pub named : List ℕ → ℕ

-- a call that is active: what registers 2 and 30 held at it, and the registers that a callee keeps
pub record Call : Type 0 where
  pub function : List ℕ
  pub link : ℕ
  pub stack : ℕ
  pub before : List ℕ

-- the active calls, the innermost first; and what was noted, the latest first
pub record Noted : Type 0 where
  pub calls : List Call
  pub log : List (Event ℕ ℕ)

-- ---- the state in the words of the run of lines

abbrev pub core_of : Core → lines.Core
core_of c = record { registers = core.register c; memory = byte_at c.memory; shift = c.shift; skip = c.nullify }

abbrev pub kept : Core → List ℕ
kept c = map (core.register c) kept_registers

-- the library's functions have no frame, and save nothing
abbrev pub active_as : Map → Call → List Active
active_as m call = of_function (find (λ f. bytes_eq f.body.name call.function) m.functions)
  where
    of_function : Option Located → List Active
    of_function (Some f) = record { function = f; stack = call.stack; before = call.before } ∷ []
    of_function None = []

abbrev pub globals_in : Map → Core → List Call → List (Standing ℕ ℕ)
globals_in m c calls = globals_now m.flow m.named (byte_at c.memory) (core.register c) (flat_map (active_as m) calls)

-- ---- where the machine arrives

abbrev pub has_returned : Core → Call → Bool
has_returned c call = (c.front == call.link) && (core.register c 30 == call.stack)

-- the returns, the innermost call first, where so many calls inside these are still active
abbrev pub with_returns : Map → Core → ℕ → List Call → List (Event ℕ ℕ) → List (Event ℕ ℕ)
with_returns m c inner [] log = log
with_returns m c inner (call ∷ callers) log =
    if has_returned c call
    then with_returns m c inner callers (Returned call.function inner (globals_in m c callers) call.before (kept c) ∷ log)
    else with_returns m c (inner + 1) callers log

abbrev pub left : Core → List Call → List Call
left c calls = filter (λ call. not (has_returned c call)) calls

abbrev pub function_at : Map → ℕ → Option (List ℕ)
function_at m a = find (λ f. m.named f == a) (names_of m.flow)

abbrev pub called : Map → Core → Option (List ℕ) → Noted → Noted
called m c None n = n
called m c (Some f) n = record {
  calls = record { function = f; link = core.register c 2; stack = core.register c 30; before = kept c } ∷ n.calls;
  log = Called f (globals_in m c n.calls) (kept c) ∷ n.log;
}

-- a state whose step is next: first what returned there, then what is called there
abbrev pub arrived : Map → Core → Noted → Noted
arrived m c n =
    let back : Noted = record { calls = left c n.calls; log = with_returns m c 0 n.calls n.log } in
    if c.nullify then back else called m c (function_at m c.front) back

-- ---- what a step loads and stores

abbrev pub is_eligible : Map → FlowGlobal → Bool
is_eligible m g = nat_lt 0 (count_by (bytes_eq g.name) m.eligible)

abbrev pub accesses_to : Map → Inst → lines.Core → FlowGlobal → List (Event ℕ ℕ)
accesses_to m i c g =
    (if is_eligible m g && touches (loaded_at i c) (m.named g.name) g.size then Loaded g.name ∷ [] else [])
    ++ (if is_eligible m g && touches (stored_at i c) (m.named g.name) g.size then Stored g.name ∷ [] else [])

abbrev pub accesses_of : Map → Option Inst → lines.Core → List (Event ℕ ℕ)
accesses_of m None c = []
accesses_of m (Some i) c = flat_map (accesses_to m i c) (globals_of m.flow)

abbrev pub accesses_in : Map → Core → List (Event ℕ ℕ)
accesses_in m c = if c.nullify then [] else accesses_of m (decoded (word_at c.memory c.front)) (core_of c)

-- ---- the run

abbrev pub stepped : Map → Progress → Progress → Noted → Noted
stepped m (Running s) (Running next) n =
    arrived m next.core (record { calls = n.calls; log = accesses_in m s.core ++ n.log })
stepped m (Running s) (Stopped end next) n = n
stepped m (Stopped end s) next n = n

abbrev pub began : Map → Progress → Noted
began m (Running s) = arrived m s.core (record { calls = []; log = [] })
began m (Stopped end s) = record { calls = []; log = [] }

unfoldable pub noted : Map → State → ℕ → Noted
noted m s zero = began m (run_of zero s)
noted m s (suc n) = stepped m (run_of n s) (run_of (suc n) s) (noted m s n)

abbrev pub shown : List ℕ → ℕ → State → List (Event ℕ ℕ) → View (Event ℕ ℕ)
shown input steps s log = record { output = s.output; read = length input - length s.rest; events = steps; log = log }

-- A machine that halts has gone wrong.
abbrev pub staged : List ℕ → ℕ → Progress → List (Event ℕ ℕ) → Stage (Event ℕ ℕ)
staged input steps (Running s) log = Going (shown input steps s log)
staged input steps (Stopped (machine.Ended status) s) log = Over (Ended status) (shown input steps s log)
staged input steps (Stopped machine.StackStop s) log = Over StackFull (shown input steps s (with_refusal log))
staged input steps (Stopped (machine.Halted halt at) s) log = Wrong

-- the machine over an input, from a state of registers and memory
unfoldable pub traced_run : Map → Core → List ℕ → ℕ → Stage (Event ℕ ℕ)
traced_run m c input n =
    staged input n (run_of n (start_state c input)) (noted m (start_state c input) n).log

-- ---- the calls that are active

-- those by what a list of events tells, and those that the machine has
abbrev pub told_active : List (Event ℕ ℕ) → List (List ℕ)
told_active log = map (λ o. o.function) (active log)

abbrev pub own_active : List Call → List (List ℕ)
own_active calls = map (λ c. c.function) calls

-- ---- the same without where globals stand and what registers hold

abbrev pub sized : Map → FlowGlobal → List (List ℕ × ℕ)
sized m g = if is_eligible m g then (g.name, g.size) ∷ [] else []

-- the symbols of which the run tells
abbrev pub symbols_in : Map → Symbols
symbols_in m = record { functions = names_of m.flow; globals = flat_map (sized m) (globals_of m.flow); named = m.named }
