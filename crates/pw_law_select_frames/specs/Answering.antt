-- From behind a call to what follows it: the caller takes the answer, and the state of both runs stands whole.
use Rattle.std.specs.Prelude.{ℕ, ◌≡◌, ◌^◌, ◌<◌, Option, Some, List, []}
use Rattle.pw_value.specs.declared.value.Value.{Value}
use Rattle.pw_inst.specs.Registers.{answer}
use Rattle.pw_alloc.specs.declared.located.Located.{Located}
use Rattle.pw_run_languages.specs.Programs.{Program}
use Rattle.pw_run_languages.specs.Addresses.{Addresses, AreLawful}
use Rattle.pw_run_languages.specs.Acts.{Core, register}
use Rattle.pw_run_languages.specs.Standing.{ValueStands}
use Rattle.pw_run_languages.specs.LineRun as run
use Rattle.pw_run_languages.specs.PlacedRun as placed
use Rattle.pw_run_languages.specs.PlacedRun.{takes_result}
use Rattle.pw_run_languages.specs.SelectionLaws.{line_program}
use Rattle.pw_law_select_states.specs.Laid.{address}
use Rattle.pw_law_select_states.specs.Passes.{Passes, Leaves, further}
use Rattle.pw_law_select_frames.specs.Blocks.{items_from}
use Rattle.pw_law_select_frames.specs.Chain.{BothStand}
use Rattle.pw_law_select_frames.specs.Extending.{FramesAreKnown}
use Rattle.pw_law_select_frames.specs.Returning.{BothTake}

-- both runs are behind a call, whose answer stands for a value where the caller takes it
pub record MayAnswer (p : Program) (w : Addresses) (site : ℕ → ℕ) (t : Option ℕ) (v : Value) (m : placed.Machine) (l : run.Machine) : Type 0 where
  pub lawful : AreLawful p w
  pub takes : BothTake p w site t m l
  pub known : FramesAreKnown p m
  pub temp : (k : ℕ) → t ≡ Some k → k < m.frame.function.body.temps
  pub value : (k : ℕ) → t ≡ Some k → ValueStands (address p w site) v (register l.core answer)
  pub word : (k : ℕ) → t ≡ Some k → register l.core answer < 2 ^ 32

pub record Answers (p : Program) (w : Addresses) (functions : List Located) (scratch : ℕ → (ℕ → ℕ) → ℕ → ℕ) (site : ℕ → ℕ) (t : Option ℕ) (v : Value) (m : placed.Machine) (l : run.Machine) : Type 0 where
  pub core : Core
  pub passes : Passes (line_program p functions) w scratch l (items_from m.frame.function m.frame.block m.frame.ops m.frame.end) core []
  pub leaves : Leaves site m l.core core
  pub stands : BothStand p w site (takes_result t v m) (further (items_from m.frame.function m.frame.block m.frame.ops m.frame.end) core passes.more [] l)

abbrev pub AnswersAreTaken : Type 0
AnswersAreTaken =
    (p : Program) (w : Addresses) (functions : List Located) (scratch : ℕ → (ℕ → ℕ) → ℕ → ℕ) (site : ℕ → ℕ) (t : Option ℕ) (v : Value) (m : placed.Machine) (l : run.Machine)
    → MayAnswer p w site t v m l → Answers p w functions scratch site t v m l
