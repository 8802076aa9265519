-- The same by names, as soundness has it (Sound of pw_db_sound).
use Rattle.std.specs.Prelude.{ℕ, ◌≡◌, ◌↔◌, Some, List, Contains, slice_get}
use Rattle.pw_summary.specs.declared.summary.Summary.{Summary}
use Rattle.pw_graph.specs.declared.graph.CallGraph.{CallGraph}
use Rattle.pw_graph.specs.Program.{IsTaken, IsEscaped}
use Rattle.pw_db_sound.specs.CallGraphs.{Graph, IsMovable, RootOf, PathBelow}
use Rattle.pw_clusters.specs.Clusters.{IsDefined}
use Rattle.pw_clusters.specs.Saving.{saves_at}
use Rattle.pw_clusters.specs.Sharing.{Shares}

-- a graph by names tells which functions may be moved as the summaries do
abbrev pub TellsMovable : List Summary → Graph → Type 0
TellsMovable ss n = (f : List ℕ) → IsMovable n f ↔ (IsDefined ss f × (¬ IsTaken ss f) × (¬ IsEscaped ss f))

-- the function of the name saves the register for others, and it shares the register
pub record IsSaverNamed (g : CallGraph) (roots needs : List ℕ) (h : List ℕ) (r : ℕ) : Type 0 where
  pub place : ℕ
  pub at : slice_get g.functions place ≡ Some h
  pub saves : Contains (saves_at roots needs place) r

pub record SharesNamed (g : CallGraph) (roots needs : List ℕ) (h : List ℕ) (r : ℕ) : Type 0 where
  pub place : ℕ
  pub at : slice_get g.functions place ≡ Some h
  pub shares : Shares roots needs place r

-- The root of the function of the name saves the register, and each function from which calls lead to it, none of them to the
-- root, shares the register.
pub record IsSavedAboveNamed (g : CallGraph) (n : Graph) (roots needs : List ℕ) (f : List ℕ) (r : ℕ) : Type 0 where
  pub root : List ℕ
  pub is : RootOf n f root
  pub saver : IsSaverNamed g roots needs root r
  pub way : (h : List ℕ) → PathBelow n root h f → SharesNamed g roots needs h r
