-- The solutions of a data-flow problem, and the least of them.
--
-- The elements are those of which `is_own` holds, in the order `is_below`; `gives n y z` says that node n makes z of the
-- inflow y; an edge (m, n) goes from m to n; an assignment is the list of the nodes' values.
use Rattle.std.specs.Prelude.{◌≡◌, ℕ, List, length, Contains, slice_get, Some}
use Rattle.pw_fix.specs.Order.{IsLeast, IsJoin}

-- some edge goes from m to n
abbrev pub HasEdge : List (ℕ × ℕ) → ℕ → ℕ → Type 0
HasEdge edges m n = Contains edges (m, n)

-- y is at or above the value of each predecessor of n
abbrev pub IsAbovePredecessors : {E : Type 0} → (E → E → Type 0) → List (ℕ × ℕ) → List E → ℕ → E → Type 0
IsAbovePredecessors {E} is_below edges values n y =
    (m : ℕ) (x : E) → HasEdge edges m n → slice_get values m ≡ Some x → is_below x y

-- y is the join of the values of n's predecessors
pub record IsInflow {E : Type 0} (is_own : E → Type 0) (is_below : E → E → Type 0) (edges : List (ℕ × ℕ)) (values : List E) (n : ℕ) (y : E) : Type 0 where
  pub own : is_own y
  pub above : IsAbovePredecessors is_below edges values n y
  pub least : (z : E) → is_own z → IsAbovePredecessors is_below edges values n z → is_below y z

-- z is what node n makes of the join of its predecessors' values
pub record IsStep {E : Type 0} (is_own : E → Type 0) (is_below : E → E → Type 0) (gives : ℕ → E → E → Type 0) (edges : List (ℕ × ℕ)) (values : List E) (n : ℕ) (z : E) : Type 0 where
  pub inflow : E
  pub joined : IsInflow is_own is_below edges values n inflow
  pub own : is_own z
  pub given : gives n inflow z

-- each node's value is at least the step of the join of its predecessors' values
pub record IsSolution {E : Type 0} (is_own : E → Type 0) (is_below : E → E → Type 0) (gives : ℕ → E → E → Type 0) (nodes : ℕ) (edges : List (ℕ × ℕ)) (values : List E) : Type 0 where
  pub each_node : length values ≡ nodes
  pub own : (n : ℕ) (x : E) → slice_get values n ≡ Some x → is_own x
  pub at_least_step : (n : ℕ) (x : E) → slice_get values n ≡ Some x → (z : E) × IsStep is_own is_below gives edges values n z × is_below z x

-- the solution that is at or below every solution, node by node. Its values are no more than the steps either
pub record IsLeastSolution {E : Type 0} (is_own : E → Type 0) (is_below : E → E → Type 0) (gives : ℕ → E → E → Type 0) (nodes : ℕ) (edges : List (ℕ × ℕ)) (values : List E) : Type 0 where
  pub solution : IsSolution is_own is_below gives nodes edges values
  pub least : (others : List E) → IsSolution is_own is_below gives nodes edges others → (n : ℕ) (x y : E) → slice_get values n ≡ Some x → slice_get others n ≡ Some y → is_below x y
  pub at_most_step : (n : ℕ) (x : E) → slice_get values n ≡ Some x → (z : E) × IsStep is_own is_below gives edges values n z × is_below x z

-- where elements are derived: into a node, and as its value
pub data Place : Type 0 where
  into : ℕ → Place
  value_of : ℕ → Place

-- what finitely many steps up from the least element give: a node's value flows along each edge, and each node makes its
-- step of what flows into it
pub data Derivable {E : Type 0} (is_own : E → Type 0) (is_below : E → E → Type 0) (gives : ℕ → E → E → Type 0) (edges : List (ℕ × ℕ)) : Place → E → Type 0 where
  least : (p : Place) (x : E) → IsLeast is_own is_below x → Derivable is_own is_below gives edges p x
  flows : (m n : ℕ) (x : E) → HasEdge edges m n → Derivable is_own is_below gives edges (value_of m) x → Derivable is_own is_below gives edges (into n) x
  steps : (n : ℕ) (y z : E) → Derivable is_own is_below gives edges (into n) y → is_own z → gives n y z → Derivable is_own is_below gives edges (value_of n) z
  joins : (p : Place) (x y z : E) → Derivable is_own is_below gives edges p x → Derivable is_own is_below gives edges p y → IsJoin is_own is_below x y z → Derivable is_own is_below gives edges p z

-- each node's value is derived
abbrev pub AreDerived : {E : Type 0} → (E → Type 0) → (E → E → Type 0) → (ℕ → E → E → Type 0) → List (ℕ × ℕ) → List E → Type 0
AreDerived {E} is_own is_below gives edges values =
    (n : ℕ) (x : E) → slice_get values n ≡ Some x → Derivable is_own is_below gives edges (value_of n) x
