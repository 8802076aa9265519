-- A call graph by names says what one by places says.
use Rattle.std.specs.Prelude.{ℕ, ◌≡◌, ◌↔◌, Some, List, Contains, slice_get}
use Rattle.pw_value.specs.declared.value.Kind.{Kind}
use Rattle.pw_graph.specs.declared.graph.CallGraph.{CallGraph}
use Rattle.pw_graph.specs.CallGraph.{Calls, References, Writes}
use Rattle.pw_db_sound.specs.CallGraphs.{Graph}
use Rattle.pw_db_sound.specs.CallGraphs as Named

-- the function a calls the function b
pub record CallsByName (g : CallGraph) (a b : List ℕ) : Type 0 where
  pub caller : ℕ
  pub callee : ℕ
  pub at_caller : slice_get g.functions caller ≡ Some a
  pub at_callee : slice_get g.functions callee ≡ Some b
  pub calls : Calls g caller callee

-- this is so of the function f and the global v
pub record IsByName (g : CallGraph) (Is : ℕ → ℕ → Type 0) (f v : List ℕ) : Type 0 where
  pub function : ℕ
  pub global : ℕ
  pub kind : Kind
  pub at_function : slice_get g.functions function ≡ Some f
  pub at_global : slice_get g.globals global ≡ Some (v, kind)
  pub is : Is function global

pub record IsNamed (g : CallGraph) (n : Graph) : Type 0 where
  pub calls : (a b : List ℕ) → Named.Calls n a b ↔ CallsByName g a b
  pub references : (f v : List ℕ) → Named.References n f v ↔ IsByName g (References g) f v
  pub writes : (f v : List ℕ) → Named.Writes n f v ↔ IsByName g (Writes g) f v
  pub eligible : (v : List ℕ × Kind) → Contains n.eligible v ↔ Contains g.globals v
