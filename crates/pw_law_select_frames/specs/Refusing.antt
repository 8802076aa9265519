-- A call for which there is no stack left: both runs stop, with the call refused.
use Rattle.std.specs.Prelude.{ℕ, ◌≡◌, ◌+◌, ◌<◌, ◌≤◌, ◌^◌, List, ◌∷◌}
use Rattle.pw_value.specs.declared.value.Value.{Value}
use Rattle.pw_inst.specs.Registers.{stack_pointer}
use Rattle.pw_alloc.specs.declared.located.Located.{Located}
use Rattle.pw_run.specs.Runs.{StackFull, AreAlike}
use Rattle.pw_run_languages.specs.Traces.{Called, Refused, with_refusal}
use Rattle.pw_run_languages.specs.Programs.{Program}
use Rattle.pw_run_languages.specs.Addresses.{Addresses, AreLawful}
use Rattle.pw_run_languages.specs.Acts.{register}
use Rattle.pw_run_languages.specs.Standing.{EventInWords}
use Rattle.pw_run_languages.specs.LineRun as run
use Rattle.pw_run_languages.specs.LineRun.{enters, globals_in}
use Rattle.pw_run_languages.specs.PlacedRun as placed
use Rattle.pw_run_languages.specs.PlacedRun.{globals_now}
use Rattle.pw_run_languages.specs.Direction.{with_functions}
use Rattle.pw_run_languages.specs.SelectionLaws.{line_program, with_lines}
use Rattle.pw_law_select_states.specs.Passes.{IsAmid}
use Rattle.pw_law_select_frames.specs.Library.{MayCall}

-- both note a call alike
abbrev pub CallsAreNotedAlike : Type 0
CallsAreNotedAlike =
    (p : Program) (w : Addresses) (functions : List Located) (site : ℕ → ℕ) (f : List ℕ) (args : List Value) (m : placed.Machine) (l : run.Machine) → MayCall p w site args m l
    → AreAlike (EventInWords p w.named)
    (Called f (globals_now (with_functions p functions) m.registers (m.frame ∷ m.callers) m.objects) (placed.kept m.registers) ∷ m.trace)
    (Called f (globals_in (line_program p functions) w l.core (l.frame ∷ l.callers)) (run.kept l.core) ∷ l.trace)

-- the lines enter the function, and stop at its check
pub record Refuses (p : Program) (w : Addresses) (functions : List Located) (scratch : ℕ → (ℕ → ℕ) → ℕ → ℕ) (f : Located) (m : placed.Machine) (l : run.Machine) : Type 0 where
  pub count : ℕ
  pub last : run.Machine
  pub steps : run.steps (line_program p functions) w scratch count (run.On (enters (line_program p functions) w (with_lines f) l)) ≡ run.Stopped StackFull last
  pub amid : (k : ℕ) (n : run.Machine) → 0 < k → k ≤ count
      → run.steps (line_program p functions) w scratch k (run.On (enters (line_program p functions) w (with_lines f) l)) ≡ run.On n → IsAmid n.frame
  pub trace : last.trace ≡ (enters (line_program p functions) w (with_lines f) l).trace
  pub show : (last.read ≡ m.read) × (last.out ≡ m.out) × (m.events ≤ last.events)
  pub log : AreAlike (EventInWords p w.named) (Refused f.body.name ∷ m.trace) (with_refusal last.trace)

abbrev pub FullCallsAreRefused : Type 0
FullCallsAreRefused =
    (p : Program) (w : Addresses) (functions : List Located) (scratch : ℕ → (ℕ → ℕ) → ℕ → ℕ) (site : ℕ → ℕ) (f : Located) (args : List Value) (m : placed.Machine) (l : run.Machine)
    → AreLawful p w → MayCall p w site args m l → w.limit < register l.core stack_pointer + f.frame → register l.core stack_pointer + f.frame < 2 ^ 32
    → Refuses p w functions scratch f m l
