-- The calls of a program, one by one, beside those that the debugger counts.
use Rattle.std.specs.Prelude.{ℕ, ◌≡◌, ◌+◌, ◌<◌, ◌≤◌, Bool, true, false, List, [], ◌∷◌, ◌++◌}
use Rattle.pw_value.specs.Objects.{Object}
use Rattle.pw_value.specs.declared.value.Byte.{Byte}
use Rattle.pw_value.specs.declared.value.Byte.TheVariants as B
use Rattle.pw_cmean.specs.Acts as source
use Rattle.pw_cmean.specs.Acts.{Moment}
use Rattle.pw_machine.specs.Core.{Core}
use Rattle.pw_run.specs.Runs.{End, Ended, StackFull, Stage, Going, Over, Wrong}
use Rattle.pw_run_languages.specs.Programs.{Program}
use Rattle.pw_run_languages.specs.MachineRun.{Map, Noted, globals_in}
use Rattle.pw_law_layers.specs.Whole.{AllInMachine}
use Rattle.pw_where.specs.Calls.{one_if}
use Rattle.pw_law_where.specs.Counting.{NotesCall}

-- ---- the program's calls

abbrev pub is_call : Moment → Bool
is_call (source.Called f objects) = true
is_call (source.Returned f objects) = false

-- how many calls stand among moments
abbrev pub calls_among : List Moment → ℕ
calls_among [] = 0
calls_among (m ∷ log) = one_if (is_call m) + calls_among log

-- the k-th call, the oldest being the first, is of this function, and these are the objects then
pub record IsSourceCall (log : List Moment) (k : ℕ) (f : List ℕ) (objects : List Object) : Type 0 where
  pub later : List Moment
  pub before : List Moment
  pub log_is : log ≡ later ++ source.Called f objects ∷ before
  pub count : calls_among before + 1 ≡ k

-- what a stage of a run that has not gone wrong has noted
abbrev pub HasNoted : {M : Type 0} → Stage M → List M → Type 0
HasNoted (Going v) log = v.log ≡ log
HasNoted (Over end v) log = v.log ≡ log
HasNoted Wrong log = ⊥

-- at an end for want of stack one call is refused
abbrev pub refused_at : End → ℕ
refused_at (Ended status) = 0
refused_at StackFull = 1

-- A stage of the program has at least k calls, with the one that is refused, where it is an end, or counts more than so many events.
abbrev pub HasCalls : ℕ → ℕ → Stage Moment → Type 0
HasCalls step k (Going v) = step < v.events → k ≤ calls_among v.log
HasCalls step k (Over end v) = k ≤ calls_among v.log + refused_at end
HasCalls step k Wrong = Unit {0}

-- ---- the debugger's calls

-- The machine stands before its k-th call, of this function, and these objects stand where they are noted.
pub record IsCallOfSource (q : Program) (m : Map) (k : ℕ) (c : Core) (n : Noted) (f : List ℕ) (objects : List Object) : Type 0 where
  pub call : NotesCall m k c n
  pub function : call.function ≡ f
  pub globals : AllInMachine q m.named objects (globals_in m c call.callers)

-- a byte that is a number is one of eight bits
abbrev pub IsSmall : Byte → Type 0
IsSmall (B.Num b) = b < 256
IsSmall b = Unit {0}
