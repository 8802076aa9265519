-- What soundness asks of registers that a root saves (Sound of pw_db_sound, which says it by names), by places: from the root
-- down to a function that is free to use a register, each function saves it or is free to use it itself.
use Rattle.std.specs.Prelude.{ℕ, ◌≢◌, ◌⊎◌, List, Contains, slice_index}
use Rattle.pw_graph.specs.declared.graph.CallGraph.{CallGraph}
use Rattle.pw_graph.specs.CallGraph.{Calls}
use Rattle.pw_clusters.specs.Saving.{saves_at, free_at}

-- calls lead from one function to another, none of them to the root
pub data PathBelow (g : CallGraph) (root a : ℕ) : ℕ → Type 0 where
  here : PathBelow g root a a
  further : (b c : ℕ) → PathBelow g root a b → Calls g b c → c ≢ root → PathBelow g root a c

-- the function is free to use the register, or saves it for others
abbrev pub Shares : List ℕ → List ℕ → ℕ → ℕ → Type 0
Shares roots needs f r = Contains (free_at roots needs f) r ⊎ Contains (saves_at roots needs f) r

-- The root of the function saves the register, and each function from which calls lead to the function, none of them to the
-- root, shares it.
pub record IsSavedAbove (g : CallGraph) (roots needs : List ℕ) (f r : ℕ) : Type 0 where
  pub saver : Contains (saves_at roots needs (slice_index roots f)) r
  pub way : (h : ℕ) → PathBelow g (slice_index roots f) h f → Shares roots needs h r
