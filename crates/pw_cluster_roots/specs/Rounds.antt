-- Roots in rounds: a function that may work for another alone is settled once all that call it are, and keeps its root then.
use Rattle.std.specs.Prelude.{ℕ, ◌≡◌, ◌<◌, List, length, slice_index, Contains}
use Rattle.pw_fix.specs.Row.{Holds}
use Rattle.pw_fix.specs.declared.bit_row.BitRow.{BitRow}
use Rattle.pw_graph.specs.declared.graph.CallGraph.{CallGraph}
use Rattle.pw_graph.specs.CallGraph.{Calls, Path}
use Rattle.pw_clusters.specs.Clusters.{HaveRoot}

-- all of these have one root
abbrev pub HaveAll : List ℕ → List ℕ → ℕ → Type 0
HaveAll roots places r = (c : ℕ) → Contains places c → slice_index roots c ≡ r

-- the one root of those that call a function, or else the function itself
pub record IsRootBy (roots callers : List ℕ) (f root : ℕ) : Type 0 where
  pub of_callers : (r c : ℕ) → Contains callers c → HaveAll roots callers r → root ≡ r
  pub itself : ((r : ℕ) → HaveAll roots callers r → ⊥) → root ≡ f

-- of each function the root is the one of its callers, where it is one of these and they have one; else itself
pub record AreRootsAmong (g : CallGraph) (inner : BitRow) (roots : List ℕ) : Type 0 where
  pub each : length roots ≡ length g.functions
  pub of_callers : (f r : ℕ) → Holds inner f → HaveRoot g roots f r → slice_index roots f ≡ r
  pub itself : (f : ℕ) → f < length g.functions → ((r : ℕ) → Holds inner f → HaveRoot g roots f r → ⊥) → slice_index roots f ≡ f

-- these may work for others alone: they are called, and do not come to call themselves
pub record MayBeInner (g : CallGraph) (inner : BitRow) : Type 0 where
  pub width : inner.len ≡ length g.functions
  pub called : (f : ℕ) → Holds inner f → (c : ℕ) × Calls g c f
  pub once : (f : ℕ) → Holds inner f → ¬ Path g f f

-- some functions are settled, all others among them, and the callers of each
pub record AreSettled (g : CallGraph) (inner settled : BitRow) (roots : List ℕ) : Type 0 where
  pub each : length roots ≡ length g.functions
  pub width : settled.len ≡ length g.functions
  pub outer : (f : ℕ) → f < length g.functions → (Holds inner f → ⊥) → Holds settled f
  pub callers : (f c : ℕ) → Holds settled f → Holds inner f → Calls g c f → Holds settled c
  pub of_callers : (f r : ℕ) → Holds settled f → Holds inner f → HaveRoot g roots f r → slice_index roots f ≡ r
  pub itself : (f : ℕ) → Holds settled f → ((r : ℕ) → Holds inner f → HaveRoot g roots f r → ⊥) → slice_index roots f ≡ f

-- no function is ready that is not settled
abbrev pub NoneReady : CallGraph → BitRow → Type 0
NoneReady g settled = (f : ℕ) → f < length g.functions → ((c : ℕ) → Calls g c f → Holds settled c) → Holds settled f
