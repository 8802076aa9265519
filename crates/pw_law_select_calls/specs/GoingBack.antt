-- From the end of a function that returns to where its saved registers come back: the answer is in its register, and webs are
-- stored back.
use Rattle.std.specs.Prelude.{ℕ, ◌≡◌, Option, Some, None, List, [], ◌∷◌, ◌++◌}
use Rattle.std.specs.List.{AllByRecursion}
use Rattle.pw_value.specs.declared.value.Byte.{Byte}
use Rattle.pw_value.specs.declared.value.Value.{Value}
use Rattle.pw_value.specs.declared.value.Value.TheVariants.{Undefined}
use Rattle.pw_flow.specs.declared.flow.End.TheVariants.{Return}
use Rattle.pw_flow.specs.ValidFlow.{IsResult}
use Rattle.pw_inst.specs.Registers.{answer}
use Rattle.pw_inst.specs.declared.line.Line.TheVariants.{Leave}
use Rattle.pw_alloc.specs.declared.located.Located.{Located}
use Rattle.pw_delay.specs.Items.{slotted}
use Rattle.pw_run.specs.Runs.{AreAlike}
use Rattle.pw_run_languages.specs.Traces.{Event}
use Rattle.pw_run_languages.specs.Programs.{Program}
use Rattle.pw_run_languages.specs.LawfulPrograms.{IsProgram}
use Rattle.pw_run_languages.specs.Addresses.{Addresses, AreLawful}
use Rattle.pw_run_languages.specs.Acts.{Core, register}
use Rattle.pw_run_languages.specs.Standing.{ValueStands, EventInWords}
use Rattle.pw_run_languages.specs.LineRun as run
use Rattle.pw_run_languages.specs.PlacedRun as placed
use Rattle.pw_run_languages.specs.PlacedRun.{entered_webs, leaves_webs, value_in}
use Rattle.pw_run_languages.specs.Direction.{with_functions}
use Rattle.pw_run_languages.specs.SelectionLaws.{line_program}
use Rattle.pw_law_select_states.specs.Laid.{address}
use Rattle.pw_law_select_states.specs.Passes.{Passes, Leaves, further}
use Rattle.pw_law_select_frames.specs.Blocks.{blocks_behind}
use Rattle.pw_law_select_frames.specs.Chain.{BothStand}
use Rattle.pw_law_select_frames.specs.Extending.{FramesAreKnown}
use Rattle.pw_law_select_frames.specs.Amid.{BothAmid, StaysInFrame}
use Rattle.pw_law_select_frames.specs.Leaving.{leaving}
use Rattle.pw_law_select_known.specs.Laws.{IsAccess}

-- what a function answers
abbrev pub answer_of : Option ℕ → placed.Machine → Value
answer_of None m = Undefined
answer_of (Some t) m = value_in m.frame m.registers t

-- Both runs are at the end of a function that returns the value of a temporary, or nothing.
pub record MayGoBack (p : Program) (w : Addresses) (site : ℕ → ℕ) (t : Option ℕ) (m : placed.Machine) (l : run.Machine) : Type 0 where
  pub program : IsProgram p
  pub lawful : AreLawful p w
  pub stand : BothStand p w site m l
  pub known : FramesAreKnown p m
  pub ops : m.frame.ops ≡ []
  pub end : m.frame.end ≡ Return t
  pub result : IsResult m.frame.function.body.temps t

-- They come to where its saved registers come back. What it answers stands in the register for answers.
pub record GoesBack (p : Program) (functions : List Located) (w : Addresses) (scratch : ℕ → (ℕ → ℕ) → ℕ → ℕ) (site : ℕ → ℕ) (t : Option ℕ) (m n : placed.Machine) (l : run.Machine) : Type 0 where
  pub core : Core
  pub log : List (Event ℕ ℕ)
  pub passes : Passes (line_program p functions) w scratch l (slotted (leaving m.frame.function ++ Leave ∷ blocks_behind m.frame.function m.frame.block)) core log
  pub frame : n.frame ≡ m.frame
  pub same : StaysInFrame site m n
  pub leaves : Leaves site m l.core core
  pub amid : BothAmid p w site (leaving m.frame.function ++ Leave ∷ blocks_behind m.frame.function m.frame.block) n
      (further (slotted (leaving m.frame.function ++ Leave ∷ blocks_behind m.frame.function m.frame.block)) core passes.more log l)
  pub value : ValueStands (address p w site) (answer_of t m) (register core answer)
  pub shown : (n.rest ≡ m.rest) × (n.read ≡ m.read) × (n.out ≡ m.out) × (n.events ≡ m.events)
  pub logs : AreAlike (EventInWords p w.named) m.trace l.trace → AreAlike (EventInWords p w.named) n.trace (log ++ l.trace)
  pub own : List (Event Byte Value)
  pub quiet : AllByRecursion (λ e. IsAccess e) own
  pub noted : n.trace ≡ own ++ m.trace

abbrev pub ReturnsAreReached : Type 0
ReturnsAreReached =
    (p : Program) (functions : List Located) (w : Addresses) (scratch : ℕ → (ℕ → ℕ) → ℕ → ℕ) (site : ℕ → ℕ) (t : Option ℕ) (m n : placed.Machine) (l : run.Machine)
    → MayGoBack p w site t m l → leaves_webs (with_functions p functions) (entered_webs m.frame.function) m ≡ placed.On n → GoesBack p functions w scratch site t m n l
