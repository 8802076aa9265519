-- What direction and allocation owe to the layers between which they stand: the statements of their laws.
use Rattle.std.specs.Prelude.{ℕ, ◌≡◌, List}
use Rattle.pw_db.specs.declared.database.Directives.{Directives}
use Rattle.pw_db.specs.Database.{IsDatabase}
use Rattle.pw_alloc.specs.declared.located.Located.{Located}
use Rattle.pw_run.specs.Runs.{Refines, Same}
use Rattle.pw_db_sound.specs.Sound.{Sound}
use Rattle.pw_run_languages.specs.Traces.{EventAlike, calls_of, Notes, KeepRegisters}
use Rattle.pw_run_languages.specs.Traffic.{ObeysTraffic}
use Rattle.pw_run_languages.specs.Calls.{FollowsCalls}
use Rattle.pw_run_languages.specs.Programs.{Program}
use Rattle.pw_run_languages.specs.FlowRun.{flow_run}
use Rattle.pw_run_languages.specs.LawfulPrograms.{IsProgram, graph_of}
use Rattle.pw_run_languages.specs.PlacedRun.{placed_run}
use Rattle.pw_run_languages.specs.Direction.{web_run, directed_functions, with_functions, MomentAlike}
use Rattle.pw_run_languages.specs.Serving.{AllServe}

-- The directed run does what the flow run does, with each global in its place at each call and return; returns keep
-- the registers; its calls are those of the graph; and the traffic law holds of all that it notes.
pub record DirectionKeeps (p : Program) (d : List (List ℕ × Directives)) (input : List ℕ) : Type 0 where
  pub runs : Refines (MomentAlike p) (flow_run p input) (calls_of (web_run p d input))
  pub registers : (n : ℕ) → Notes (KeepRegisters d) (web_run p d input n)
  pub calls : (n : ℕ) → Notes (FollowsCalls (graph_of p)) (web_run p d input n)
  pub traffic : (n : ℕ) → Notes (ObeysTraffic (graph_of p) d) (web_run p d input n)

abbrev pub DirectionKeepsRuns : Type 0
DirectionKeepsRuns =
    (p : Program) (d : List (List ℕ × Directives)) (input : List ℕ) →
    IsProgram p → IsDatabase d → Sound (graph_of p) d → DirectionKeeps p d input

-- Where places serve, the placed run does what the directed run does and notes the same; returns keep the
-- registers.
pub record PlacesKeep (p : Program) (d : List (List ℕ × Directives)) (functions : List Located) (input : List ℕ) : Type 0 where
  pub runs : Refines (EventAlike Same Same) (web_run p d input) (placed_run (with_functions p functions) input)
  pub registers : (n : ℕ) → Notes (KeepRegisters d) (placed_run (with_functions p functions) input n)

abbrev pub PlacesKeepRuns : Type 0
PlacesKeepRuns =
    (p : Program) (d : List (List ℕ × Directives)) (functions : List Located) (input : List ℕ) →
    IsProgram p → IsDatabase d → Sound (graph_of p) d → AllServe (directed_functions p d) functions → PlacesKeep p d functions input
