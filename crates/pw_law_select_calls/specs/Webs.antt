-- The webs that a function enters, one after the other: how they are loaded behind its saved registers, and how they are stored
-- back at its end.
use Rattle.std.specs.Prelude.{ℕ, ◌≡◌, ◌≢◌, List, ◌++◌}
use Rattle.std.specs.List.{AllByRecursion, flat_map}
use Rattle.pw_value.specs.declared.value.Byte.{Byte}
use Rattle.pw_value.specs.declared.value.Value.{Value}
use Rattle.pw_inst.specs.Registers.{help}
use Rattle.pw_inst.specs.declared.line.Line.{Line}
use Rattle.pw_db.specs.declared.database.Web.{Web}
use Rattle.pw_webflow.specs.ValidWebs.{HasRegister}
use Rattle.pw_alloc.specs.declared.located.Located.{Located}
use Rattle.pw_delay.specs.Items.{slotted}
use Rattle.pw_select.specs.Selection.{loaded_web, stored_back}
use Rattle.pw_run.specs.Runs.{AreAlike}
use Rattle.pw_run_languages.specs.Traces.{Event}
use Rattle.pw_run_languages.specs.Programs.{Program}
use Rattle.pw_run_languages.specs.LawfulPrograms.{IsProgram}
use Rattle.pw_run_languages.specs.Addresses.{Addresses, AreLawful}
use Rattle.pw_run_languages.specs.Acts.{Core, register}
use Rattle.pw_run_languages.specs.Standing.{EventInWords}
use Rattle.pw_run_languages.specs.LineRun as run
use Rattle.pw_run_languages.specs.PlacedRun as placed
use Rattle.pw_run_languages.specs.PlacedRun.{enters_webs, leaves_webs}
use Rattle.pw_run_languages.specs.Direction.{with_functions}
use Rattle.pw_run_languages.specs.Serving.{IsTempRegister}
use Rattle.pw_run_languages.specs.SelectionLaws.{line_program}
use Rattle.pw_law_select_states.specs.Passes.{Passes, Leaves, further}
use Rattle.pw_law_select_frames.specs.Extending.{FramesAreKnown}
use Rattle.pw_law_select_frames.specs.Amid.{BothAmid, StaysInFrame}
use Rattle.pw_law_select_known.specs.Laws.{IsAccess}

-- a web of the function, with a register of its own
pub record IsWebOf (f : Located) (x : Web) : Type 0 where
  pub temp : IsTempRegister x.reg
  pub has : HasRegister f.body.directives x.reg

-- both runs are amid a function where rows of webs are next
pub record AtWebs (p : Program) (w : Addresses) (site : ℕ → ℕ) (row : Web → List Line) (webs : List Web) (more : List Line) (m : placed.Machine) (l : run.Machine) : Type 0 where
  pub program : IsProgram p
  pub lawful : AreLawful p w
  pub amid : BothAmid p w site (flat_map row webs ++ more) m l
  pub known : FramesAreKnown p m
  pub own : AllByRecursion (IsWebOf m.frame.function) webs

-- Both come behind them: the frame of the placed run is the same, and lines change no register but that of addresses and those of
-- the webs.
pub record WebsGo (p : Program) (functions : List Located) (w : Addresses) (scratch : ℕ → (ℕ → ℕ) → ℕ → ℕ) (site : ℕ → ℕ) (webs : List Web) (more : List Line) (m n : placed.Machine) (l : run.Machine) : Type 0 where
  pub core : Core
  pub log : List (Event ℕ ℕ)
  pub passes : Passes (line_program p functions) w scratch l (slotted more) core log
  pub frame : n.frame ≡ m.frame
  pub same : StaysInFrame site m n
  pub leaves : Leaves site m l.core core
  pub registers : (r : ℕ) → r ≢ help → AllByRecursion (λ (x : Web). r ≢ x.reg) webs → register core r ≡ register l.core r
  pub amid : BothAmid p w site more n (further (slotted more) core passes.more log l)
  pub shown : (n.rest ≡ m.rest) × (n.read ≡ m.read) × (n.out ≡ m.out) × (n.events ≡ m.events)
  pub logs : AreAlike (EventInWords p w.named) m.trace l.trace → AreAlike (EventInWords p w.named) n.trace (log ++ l.trace)
  -- what the placed run notes are loads and stores alone
  pub own : List (Event Byte Value)
  pub quiet : AllByRecursion (λ e. IsAccess e) own
  pub noted : n.trace ≡ own ++ m.trace

abbrev pub WebsAreEntered : Type 0
WebsAreEntered =
    (p : Program) (functions : List Located) (w : Addresses) (scratch : ℕ → (ℕ → ℕ) → ℕ → ℕ) (site : ℕ → ℕ) (webs : List Web) (more : List Line) (m n : placed.Machine) (l : run.Machine)
    → AtWebs p w site loaded_web webs more m l → enters_webs (with_functions p functions) webs m ≡ placed.On n → WebsGo p functions w scratch site webs more m n l

abbrev pub WebsAreLeft : Type 0
WebsAreLeft =
    (p : Program) (functions : List Located) (w : Addresses) (scratch : ℕ → (ℕ → ℕ) → ℕ → ℕ) (site : ℕ → ℕ) (webs : List Web) (more : List Line) (m n : placed.Machine) (l : run.Machine)
    → AtWebs p w site stored_back webs more m l → leaves_webs (with_functions p functions) webs m ≡ placed.On n → WebsGo p functions w scratch site webs more m n l
