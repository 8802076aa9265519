-- Where the run of lines has just entered a function of the source, and the machine shows that.
use Rattle.std.specs.Prelude.{ℕ, ◌≡◌, ◌+◌, ◌≤◌, ◌<◌, true, false, Some, List, [], ◌∷◌}
use Rattle.pw_value.specs.ProgramNames.{start_name}
use Rattle.pw_machine.specs.Run.{State}
use Rattle.pw_run_languages.specs.Traces.{is_of_source}
use Rattle.pw_run_languages.specs.Acts as lines
use Rattle.pw_run_languages.specs.LineRun.{LineFn, Frame, Machine, Step, On, Stopped, Astray, function_named, return_address, enters, steps, start}
use Rattle.pw_law_where.specs.Counting.{source_calls}
use Rattle.pw_law_link_run.specs.Steps.{Setting}
use Rattle.pw_law_link_run.specs.Placing.{name_in}
use Rattle.pw_law_link_run.specs.Simulating.{Simulates}
use Rattle.pw_law_link_run.specs.Leveled.{AreFramed, IsInLevel}

-- of the functions that are active the one that was entered first
abbrev pub first_active : LineFn → List Frame → LineFn
first_active f [] = f
first_active f (g ∷ gs) = first_active g.function gs

-- of the calls that are active the one that was made first: its function, and the stack pointer at it
abbrev pub first_call : LineFn → ℕ → List Frame → LineFn × ℕ
first_call f stack [] = (f, stack)
first_call f stack (g ∷ gs) = first_call g.function g.stack gs

-- A function has just been entered: its caller goes on behind the call, whose return address stood in register 2, and the
-- next word is not passed over.
pub record HasEntered (x : Setting) (t : Machine) : Type 0 where
  pub function : LineFn
  pub caller : Machine
  pub is : t ≡ enters x.program x.addresses function caller
  pub link : lines.register caller.core 2 ≡ return_address x.addresses caller.frame caller.frame.left
  pub run : caller.core.skip ≡ false

-- it is the k-th call of a function of the source
pub record EntersAs (x : Setting) (k : ℕ) (t : Machine) : Type 0 where
  pub entered : HasEntered x t
  pub of_source : is_of_source (name_in entered.function) ≡ true
  pub count : source_calls entered.caller.trace + 1 ≡ k

-- the lines have passed a step of the machine: they have counted more events, or have stopped
abbrev pub HasPassed : ℕ → Step → Type 0
HasPassed m (On t) = m < t.events
HasPassed m (Stopped end t) = Unit {0}
HasPassed m Astray = ⊥

-- within n steps of lines the function of the k-th call is entered, in a state that the machine shows where it is at step m
pub record EntersAt (x : Setting) (a : AreFramed x) (scratch : ℕ → (ℕ → ℕ) → ℕ → ℕ) (input : List ℕ) (k m n : ℕ) (s : State) : Type 0 where
  pub at : ℕ
  pub within : at ≤ n
  pub state : Machine
  pub is : steps x.program x.addresses scratch at (start x.program x.addresses input) ≡ On state
  pub enters : EntersAs x k state
  pub first : (f : LineFn) → function_named x.program start_name ≡ Some f → first_call state.frame.function state.frame.stack state.callers ≡ (f, x.addresses.base)
  pub level : IsInLevel x a state
  pub step : ℕ
  pub simulates : Simulates x state step
  pub step_is : step ≡ m
  pub core : simulates.at.core ≡ s.core
