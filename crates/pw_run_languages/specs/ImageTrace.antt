-- The trace of an image that runs: its calls, its returns, and the loads and stores of some of its global objects, by the
-- addresses that its map tells. A function is called where the next step stands at its address and is not nullified. The
-- call is active until a later step stands at the address that register 2 held at the call, with register 30 as it was
-- then; so the slot of a branch that calls stands before the call, and that of a branch that returns stands in it. A step
-- loads or stores a global where its access has a byte of it.
use Rattle.std.specs.Prelude.{ℕ, zero, suc, ◌+◌, ◌-◌, ◌==◌, ◌&&◌, not, Bool, if◌then◌else◌, Option, Some, None, List, [], ◌∷◌, ◌++◌, map, filter, find, take, length}
use Rattle.std.specs.List.{flat_map}
use Rattle.std.specs.Str.{bytes_eq}
use Rattle.pw_value.specs.declared.value.Kind.{Kind}
use Rattle.pw_value.specs.ProgramNames.{library_functions}
use Rattle.pw_flow.specs.ValidFlow.{kind_size}
use Rattle.pw_inst.specs.declared.Inst.{Inst}
use Rattle.pw_inst.specs.InstructionTable.{decoded}
use Rattle.pw_inst.specs.Computing.{Action, action}
use Rattle.pw_link.specs.FromMilli.Library.{routines}
use Rattle.pw_image.specs.declared.image.Image.{Image}
use Rattle.pw_link.specs.Layout.{address_in}
use Rattle.pw_machine.specs.Core.{Core, register, word_at}
use Rattle.pw_machine.specs.Start.{image_start}
use Rattle.pw_machine.specs.Run.{State, Progress, Running, Stopped, run_of}
pub use Rattle.pw_machine.specs.Run.{start_state}
use Rattle.pw_run_languages.specs.Traces.{Event, Called, Returned, Loaded, Stored, touches, load_of, store_of}

-- what a trace tells: an event, without where global objects stand and what registers hold
abbrev pub Told : Type 0
Told = Event (Unit {0}) (Unit {0})

-- the functions whose calls are told, the global objects whose loads and stores are, with their sizes, and where each stands
pub record Symbols : Type 0 where
  pub functions : List (List ℕ)
  pub globals : List (List ℕ × ℕ)
  pub named : List ℕ → ℕ

-- a call that is active: what registers 2 and 30 held at it
pub record Call : Type 0 where
  pub function : List ℕ
  pub link : ℕ
  pub stack : ℕ

-- the active calls, the innermost first; and what was told, the latest first
pub record Trace : Type 0 where
  pub calls : List Call
  pub told : List Told

-- ---- where the machine arrives

abbrev pub has_returned : Core → Call → Bool
has_returned c call = (c.front == call.link) && (register c 30 == call.stack)

-- the returns, the innermost call first, where so many calls inside these are still active
abbrev pub with_returns : Core → ℕ → List Call → List Told → List Told
with_returns c inner [] told = told
with_returns c inner (call ∷ callers) told =
    if has_returned c call
    then with_returns c inner callers (Returned call.function inner [] [] [] ∷ told)
    else with_returns c (inner + 1) callers told

abbrev pub left : Core → List Call → List Call
left c calls = filter (λ call. not (has_returned c call)) calls

abbrev pub function_at : Symbols → ℕ → Option (List ℕ)
function_at s a = find (λ f. s.named f == a) s.functions

abbrev pub called : Core → Option (List ℕ) → Trace → Trace
called c None t = t
called c (Some f) t = record {
  calls = record { function = f; link = register c 2; stack = register c 30 } ∷ t.calls;
  told = Called f [] [] ∷ t.told;
}

-- a state whose step is next: first what returned there, then what is called there
abbrev pub arrived : Symbols → Core → Trace → Trace
arrived s c t =
    let back : Trace = record { calls = left c t.calls; told = with_returns c 0 t.calls t.told } in
    if c.nullify then back else called c (function_at s c.front) back

-- ---- what a step loads and stores

abbrev pub accesses_to : Symbols → Action → List ℕ × ℕ → List Told
accesses_to s does g =
    (if touches (load_of does) (s.named g.0) g.1 then Loaded g.0 ∷ [] else [])
    ++ (if touches (store_of does) (s.named g.0) g.1 then Stored g.0 ∷ [] else [])

abbrev pub accesses_of : Symbols → Core → Option Inst → List Told
accesses_of s c None = []
accesses_of s c (Some i) = flat_map (accesses_to s (action (λ r. register c r) c.shift i)) s.globals

abbrev pub accesses_in : Symbols → Core → List Told
accesses_in s c = if c.nullify then [] else accesses_of s c (decoded (word_at c.memory c.front))

-- ---- the run

abbrev pub stepped : Symbols → Progress → Progress → Trace → Trace
stepped s (Running a) (Running b) t = arrived s b.core (record { calls = t.calls; told = accesses_in s a.core ++ t.told })
stepped s (Running a) (Stopped end b) t = t
stepped s (Stopped end a) b t = t

abbrev pub began : Symbols → Progress → Trace
began s (Running a) = arrived s a.core (record { calls = []; told = [] })
began s (Stopped end a) = record { calls = []; told = [] }

-- within so many steps from a state on
unfoldable pub traced : Symbols → State → ℕ → Trace
traced s a zero = began s (run_of zero a)
traced s a (suc n) = stepped s (run_of n a) (run_of (suc n) a) (traced s a n)

-- ---- the symbols of an image

-- where its map has a function or a global
abbrev pub address_of : Image → List ℕ → ℕ
address_of v name = address_in (map (λ f. (f.name, f.address)) v.functions ++ map (λ g. (g.name, g.address)) v.globals) name

-- The map has the functions of the modules, and behind them the library's and the routines. A trace tells of no routine.
abbrev pub functions_in : Image → List (List ℕ)
functions_in v = library_functions ++ map (λ f. f.name) (take (length v.functions - length routines) v.functions)

-- an object's size, where it is one of these scalars
abbrev pub sized : List (List ℕ × Kind) → List ℕ → List (List ℕ × ℕ)
sized [] name = []
sized (g ∷ rest) name = if bytes_eq g.0 name then (name, kind_size g.1) ∷ [] else sized rest name

abbrev pub symbols_of : Image → List (List ℕ × Kind) → Symbols
symbols_of v scalars = record {
  functions = functions_in v;
  globals = flat_map (λ g. sized scalars g.name) v.globals;
  named = address_of v;
}

-- ---- its trace

-- what an image tells of its functions and of these scalars within so many steps on an input, the latest first
abbrev pub trace_of : Image → List (List ℕ × Kind) → List ℕ → ℕ → List Told
trace_of v scalars input n = (traced (symbols_of v scalars) (start_state (image_start v.memory) input) n).told
