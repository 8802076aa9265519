-- Return addresses in memory, while the lines go from one whole state to another.
use Rattle.std.specs.Prelude.{ℕ, List}
use Rattle.pw_alloc.specs.declared.located.Located.{Located}
use Rattle.pw_delay.specs.declared.items.Item.{Item}
use Rattle.pw_run_languages.specs.Traces.{Event}
use Rattle.pw_run_languages.specs.Programs.{Program}
use Rattle.pw_run_languages.specs.Addresses.{Addresses}
use Rattle.pw_run_languages.specs.Acts.{Core}
use Rattle.pw_run_languages.specs.LineRun as run
use Rattle.pw_run_languages.specs.Links.{HasLinks}
use Rattle.pw_run_languages.specs.PlacedRun as placed
use Rattle.pw_run_languages.specs.SelectionLaws.{line_program}
use Rattle.pw_law_select_states.specs.Passes.{Passes, further}
use Rattle.pw_law_select_frames.specs.Chain.{BothStand}
use Rattle.pw_law_selection.specs.Following.{Comes}

-- where a state of both runs stands whole, it has its links
abbrev pub StatesHaveLinks : Type 0
StatesHaveLinks = (p : Program) (w : Addresses) (site : ℕ → ℕ) (m : placed.Machine) (l : run.Machine) → BothStand p w site m l → HasLinks w l

-- from such a state lines that call nothing come through, with links in each state on the way
abbrev pub PassagesCome : Type 0
PassagesCome =
    (p : Program) (functions : List Located) (w : Addresses) (scratch : ℕ → (ℕ → ℕ) → ℕ → ℕ) (site : ℕ → ℕ) (m : placed.Machine) (l : run.Machine)
    (rest : List Item) (core : Core) (log : List (Event ℕ ℕ)) → BothStand p w site m l → (passes : Passes (line_program p functions) w scratch l rest core log)
    → Comes p functions w scratch (run.On l) (run.On (further rest core passes.more log l))
