-- The placed run and the run of lines, step by step: when their states are alike, what the lines do while the placed run does a
-- step, and what is left of the law once each step is known to be followed.
use Rattle.std.specs.Prelude.{ℕ, ◌≡◌, ◌≤◌, List, ◌∷◌}
use Rattle.std.specs.List.{AllByRecursion}
use Rattle.pw_db.specs.Database.{IsDirectives}
use Rattle.pw_db.specs.declared.database.Directives.{Directives}
use Rattle.pw_alloc.specs.declared.located.Located.{Located}
use Rattle.pw_run.specs.Runs.{End, Ended, StackFull, SameIn}
use Rattle.pw_run_languages.specs.Traces.{Event, KeepRegisters, with_refusal}
use Rattle.pw_run_languages.specs.Calls.{FollowsCalls, AreGuarded}
use Rattle.pw_run_languages.specs.Programs.{Program, AreBytes}
use Rattle.pw_run_languages.specs.LawfulPrograms.{IsProgram, StartFits, graph_of}
use Rattle.pw_run_languages.specs.Addresses.{Addresses, AreLawful}
use Rattle.pw_run_languages.specs.Standing.{EventInWords}
use Rattle.pw_run_languages.specs.LineRun as run
use Rattle.pw_run_languages.specs.Links.{HasLinks}
use Rattle.pw_run_languages.specs.PlacedRun as placed
use Rattle.pw_run_languages.specs.Direction.{directed_functions, with_functions}
use Rattle.pw_run_languages.specs.Serving.{AllServe}
use Rattle.pw_run_languages.specs.SelectionLaws.{FramesAre, line_program, SelectionKeepsRuns}
use Rattle.pw_law_select_states.specs.Pointers.{AreKnown}
use Rattle.pw_law_select_frames.specs.Chain.{BothStand}
use Rattle.pw_law_select_frames.specs.Library.{ShowAlike}
use Rattle.pw_law_select_kept.specs.Keeping.{AllLeaveAsFound, CallEachOther}

-- what the law is given
pub record IsGiven (p : Program) (d : List (List ℕ × Directives)) (functions : List Located) (w : Addresses) (input : List ℕ) : Type 0 where
  pub program : IsProgram p
  pub directives : AllByRecursion (λ f. IsDirectives f.1) d
  pub guarded : AreGuarded (graph_of p) d functions
  pub serve : AllServe (directed_functions p d) functions
  pub frames : FramesAre p functions
  pub fits : StartFits p
  pub lawful : AreLawful p w
  pub bytes : AreBytes input

-- ---- states

-- of registers that a callee keeps: what the returns so far kept, and what the functions that are active leave
pub record AreKept (p : Program) (d : List (List ℕ × Directives)) (l : run.Machine) : Type 0 where
  pub noted : KeepRegisters d l.trace
  pub calls : CallEachOther (graph_of p) (l.frame ∷ l.callers)
  pub left : AllLeaveAsFound d l.core.memory l.core.registers (l.frame ∷ l.callers)

-- both stand, have shown the like, and the lines keep registers if the placed run's calls are those of the graph
pub record AreAlike (p : Program) (d : List (List ℕ × Directives)) (w : Addresses) (m : placed.Machine) (l : run.Machine) : Type 0 where
  pub site : ℕ → ℕ
  pub stand : BothStand p w site m l
  pub show : ShowAlike p w m l
  pub kept : FollowsCalls (graph_of p) m.trace → AreKept p d l

-- what is shown of a log at an end
abbrev pub last_log : End → List (Event ℕ ℕ) → List (Event ℕ ℕ)
last_log (Ended status) l = l
last_log StackFull l = with_refusal l

pub record EndAlike (p : Program) (d : List (List ℕ × Directives)) (w : Addresses) (end : End) (m : placed.Machine) (l : run.Machine) : Type 0 where
  pub same : SameIn (EventInWords p w.named) (placed.shown m) (run.shown l (last_log end l.trace))
  pub counted : m.events ≤ l.events
  pub kept : FollowsCalls (graph_of p) m.trace → KeepRegisters d (last_log end l.trace)

-- ---- steps

-- the lines come there from a state, and return addresses stand in each state on the way
pub record Comes (p : Program) (functions : List Located) (w : Addresses) (scratch : ℕ → (ℕ → ℕ) → ℕ → ℕ) (s t : run.Step) : Type 0 where
  pub count : ℕ
  pub steps : run.steps (line_program p functions) w scratch count s ≡ t
  pub links : (k : ℕ) (o : run.Machine) → k ≤ count → run.steps (line_program p functions) w scratch k s ≡ run.On o → HasLinks w o

-- where the placed run goes, the lines follow; where it goes astray, nothing is said
pub data Follow (p : Program) (d : List (List ℕ × Directives)) (functions : List Located) (w : Addresses) (scratch : ℕ → (ℕ → ℕ) → ℕ → ℕ) (s : run.Step) : placed.Step → Type 0 where
  goes : (m : placed.Machine) (l : run.Machine) → Comes p functions w scratch s (run.On l) → AreAlike p d w m l → Follow p d functions w scratch s (placed.On m)
  ends : (end : End) (m : placed.Machine) (l : run.Machine) → Comes p functions w scratch s (run.Stopped end l) → EndAlike p d w end m l
      → Follow p d functions w scratch s (placed.Stopped end m)
  strays : Follow p d functions w scratch s placed.Astray

abbrev pub StartsAreFollowed : Type 0
StartsAreFollowed =
    (p : Program) (d : List (List ℕ × Directives)) (functions : List Located) (w : Addresses) (scratch : ℕ → (ℕ → ℕ) → ℕ → ℕ) (input : List ℕ) → IsGiven p d functions w input
    → Follow p d functions w scratch (run.start (line_program p functions) w input) (placed.start (with_functions p functions) input)

abbrev pub StepsAreFollowed : Type 0
StepsAreFollowed =
    (p : Program) (d : List (List ℕ × Directives)) (functions : List Located) (w : Addresses) (scratch : ℕ → (ℕ → ℕ) → ℕ → ℕ) (input : List ℕ) (n : ℕ) (m : placed.Machine) (l : run.Machine)
    → IsGiven p d functions w input → placed.steps (with_functions p functions) n (placed.start (with_functions p functions) input) ≡ placed.On m
    → (k : ℕ) × (run.steps (line_program p functions) w scratch k (run.start (line_program p functions) w input) ≡ run.On l) → AreKnown p m
    → AreAlike p d w m l → Follow p d functions w scratch (run.On l) (placed.step (with_functions p functions) m)

-- where the start and every step are followed, the law of selection holds
abbrev pub SelectionRestsOnSteps : Type 0
SelectionRestsOnSteps = StartsAreFollowed → StepsAreFollowed → SelectionKeepsRuns
