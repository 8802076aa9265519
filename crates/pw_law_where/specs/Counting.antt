-- Calls as a debugger counts them, beside those that the machine's trace notes.
use Rattle.std.specs.Prelude.{ℕ, ◌≡◌, ◌+◌, ◌==◌, Bool, true, false, Option, Some, None, List, [], ◌∷◌}
use Rattle.std.specs.List.{list_any}
use Rattle.pw_machine.specs.Core.{Core, register}
use Rattle.pw_run_languages.specs.Traces.{Event, Called, is_of_source}
use Rattle.pw_run_languages.specs.MachineRun.{Map, Call, Noted, function_at, globals_in, kept}
use Rattle.pw_where.specs.Calls.{one_if}

-- the call of a function that a module of the source defines
abbrev pub is_source_call : Event ℕ ℕ → Bool
is_source_call (Called f globals registers) = is_of_source f
is_source_call _ = false

-- how many such calls stand among events
abbrev pub source_calls : List (Event ℕ ℕ) → ℕ
source_calls [] = 0
source_calls (e ∷ log) = one_if (is_source_call e) + source_calls log

abbrev pub is_source : Option (List ℕ) → Bool
is_source (Some f) = is_of_source f
is_source None = false

-- a function stands at one of these addresses exactly where it is one that a module of the source defines
abbrev pub AreEntriesOf : List ℕ → Map → Type 0
AreEntriesOf entries m = (a : ℕ) → list_any (λ b. b == a) entries ≡ is_source (function_at m a)

-- the call of a function that is made in this state
abbrev pub call_from : List ℕ → Core → Call
call_from f c = record { function = f; link = register c 2; stack = register c 30; before = kept c }

-- The latest event is the k-th call, of a function that a module of the source defines, with where the global objects stand
-- in this state while these calls are active, and what the registers hold; and the call is active now, behind these.
pub record NotesCall (m : Map) (k : ℕ) (c : Core) (n : Noted) : Type 0 where
  pub function : List ℕ
  pub callers : List Call
  pub before : List (Event ℕ ℕ)
  pub called : n.log ≡ Called function (globals_in m c callers) (kept c) ∷ before
  pub active : n.calls ≡ call_from function c ∷ callers
  pub of_source : is_of_source function ≡ true
  pub at_address : function_at m c.front ≡ Some function
  pub count : source_calls before + 1 ≡ k
