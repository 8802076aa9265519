-- The end of a block that does not return: both runs go on at the same block, and the state stands whole.
use Rattle.std.specs.Prelude.{ℕ, ◌≡◌, ◌+◌, ◌≤◌, List, [], length}
use Rattle.pw_flow.specs.declared.flow.End.{End}
use Rattle.pw_flow.specs.declared.flow.End.TheVariants.{Return}
use Rattle.pw_flow.specs.ValidFlow.{IsEnd}
use Rattle.pw_alloc.specs.declared.located.Located.{Located}
use Rattle.pw_run_languages.specs.Programs.{Program}
use Rattle.pw_run_languages.specs.Addresses.{Addresses, AreLawful}
use Rattle.pw_run_languages.specs.Acts.{Core}
use Rattle.pw_run_languages.specs.LineRun as run
use Rattle.pw_run_languages.specs.PlacedRun as placed
use Rattle.pw_run_languages.specs.Direction.{with_functions}
use Rattle.pw_run_languages.specs.SelectionLaws.{line_program}
use Rattle.pw_law_select_states.specs.Passes.{Passes, Leaves, further}
use Rattle.pw_law_select_states.specs.Pointers.{AreKnown}
use Rattle.pw_law_select_frames.specs.Blocks.{items_from}
use Rattle.pw_law_select_frames.specs.Chain.{BothStand}

abbrev pub StaysInFunction : End → Type 0
StaysInFunction (Return t) = ⊥
StaysInFunction end = Unit {0}

-- the lines come to where the placed run goes on, with no fewer events and nothing noted
pub record GoesOnAt (p : Program) (w : Addresses) (functions : List Located) (scratch : ℕ → (ℕ → ℕ) → ℕ → ℕ) (site : ℕ → ℕ) (m n : placed.Machine) (l : run.Machine) : Type 0 where
  pub core : Core
  pub passes : Passes (line_program p functions) w scratch l (items_from n.frame.function n.frame.block n.frame.ops n.frame.end) core []
  pub stands : BothStand p w site n (further (items_from n.frame.function n.frame.block n.frame.ops n.frame.end) core passes.more [] l)
  pub leaves : Leaves site m l.core core
  pub events : n.events ≤ m.events + passes.more
  pub same : (n.trace ≡ m.trace) × (n.rest ≡ m.rest) × (n.read ≡ m.read) × (n.out ≡ m.out)

abbrev pub BlockEndsGoOn : Type 0
BlockEndsGoOn =
    (p : Program) (w : Addresses) (functions : List Located) (scratch : ℕ → (ℕ → ℕ) → ℕ → ℕ) (site : ℕ → ℕ) (m n : placed.Machine) (l : run.Machine)
    → AreLawful p w → BothStand p w site m l → AreKnown p m → m.frame.ops ≡ [] → IsEnd m.frame.function.body.temps (length m.frame.function.body.blocks) m.frame.end
    → StaysInFunction m.frame.end → placed.ends (with_functions p functions) m.frame.end m ≡ placed.On n → GoesOnAt p w functions scratch site m n l
