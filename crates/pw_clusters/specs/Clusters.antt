-- Clusters: a root, and the functions that work for it alone, since each way of calls to them comes through it. Functions go
-- by their places in a call graph.
use Rattle.std.specs.Prelude.{ℕ, ◌≡◌, ◌≢◌, ◌<◌, List, length, map, Some, slice_get, slice_index, Contains}
use Rattle.std.specs.List.{flat_map}
use Rattle.pw_value.specs.ProgramNames.{start_name}
use Rattle.pw_summary.specs.declared.summary.Summary.{Summary}
use Rattle.pw_graph.specs.declared.graph.CallGraph.{CallGraph}
use Rattle.pw_graph.specs.CallGraph.{Calls, Path}
use Rattle.pw_graph.specs.Program.{IsTaken, IsEscaped}

-- some module defines the function
abbrev pub IsDefined : List Summary → List ℕ → Type 0
IsDefined ss f = Contains (map (λ d. d.0) (flat_map (λ s. s.functions) ss)) f

-- A function that may work for another alone: a module defines it, it is not the start, it does not come to call itself, no
-- module takes its address, and somebody calls it.
pub record IsInner (ss : List Summary) (g : CallGraph) (f : ℕ) : Type 0 where
  pub name : List ℕ
  pub at : slice_get g.functions f ≡ Some name
  pub defined : IsDefined ss name
  pub no_start : name ≢ start_name
  pub no_cycle : ¬ Path g f f
  pub not_taken : ¬ IsTaken ss name
  pub not_escaped : ¬ IsEscaped ss name
  pub caller : ℕ
  pub called : Calls g caller f

-- all that call the function have one root
abbrev pub HaveRoot : CallGraph → List ℕ → ℕ → ℕ → Type 0
HaveRoot g roots f r = (c : ℕ) → Calls g c f → slice_index roots c ≡ r

-- Each function's root: the one root of its callers, where it may work for another alone and they have one; else itself.
pub record AreRoots (ss : List Summary) (g : CallGraph) (roots : List ℕ) : Type 0 where
  pub each : length roots ≡ length g.functions
  pub of_callers : (f r : ℕ) → IsInner ss g f → HaveRoot g roots f r → slice_index roots f ≡ r
  pub itself : (f : ℕ) → f < length g.functions → ((r : ℕ) → IsInner ss g f → HaveRoot g roots f r → ⊥) → slice_index roots f ≡ f

-- a function of the root's cluster, beside the root
pub record IsMember (roots : List ℕ) (r f : ℕ) : Type 0 where
  pub within : f < length roots
  pub root : slice_index roots f ≡ r
  pub other : f ≢ r
