-- What can be derived is at or below every solution, so a solution whose values are derived is the least.
use Rattle.std.proofs.Common.{◌≡◌, ℕ, ◌<◌, List, length, Some}
use Rattle.std.specs.Prelude.{slice_get}
use Rattle.std.proofs.lemmas.Option.{slice_get_within}
use Rattle.pw_fix.proofs.Places.{at_index}
use Rattle.pw_fix.specs.Order.{IsPreorder, IsLeast, IsJoin}
use Rattle.pw_fix.specs.Solution.{IsInflow, HasEdge, IsAbovePredecessors, IsStep, IsSolution, Place, into, value_of, Derivable, least, flows, steps, joins}

-- steps that rise with their inflow
abbrev pub IsMonotone : {E : Type 0} → (E → Type 0) → (E → E → Type 0) → (ℕ → E → E → Type 0) → ℕ → Type 0
IsMonotone {E} is_own is_below gives nodes =
    (n : ℕ) (x y a b : E) → n < nodes → is_own x → is_own y → is_own a → is_own b → is_below x y → gives n x a → gives n y b → is_below a b

module _ {E : Type 0} (is_own : E → Type 0) (is_below : E → E → Type 0) (gives : ℕ → E → E → Type 0) (edges : List (ℕ × ℕ)) where
  -- what is derived is the lattice's own
  pub derivable_own : {p : Place} {x : E} → Derivable is_own is_below gives edges p x → is_own x
  derivable_own (least p x l) = l.own
  derivable_own (flows m n x e d) = derivable_own d
  derivable_own (steps n y z d o g) = o
  derivable_own (joins p x y z d e j) = j.own

  -- x is at or below a node's value, or below each element above its predecessors' values
  abbrev pub IsBounded : List E → Place → E → Type 0
  IsBounded others (into n) x = (z : E) → is_own z → IsAbovePredecessors is_below edges others n z → is_below x z
  IsBounded others (value_of n) x = (y : E) → slice_get others n ≡ Some y → is_below x y

module _ {E : Type 0} (is_own : E → Type 0) (is_below : E → E → Type 0) (gives : ℕ → E → E → Type 0) (edges : List (ℕ × ℕ)) (nodes : ℕ) (order : IsPreorder is_own is_below) (monotone : IsMonotone is_own is_below gives nodes) (within : (m n : ℕ) → HasEdge edges m n → m < nodes) (others : List E) (solution : IsSolution is_own is_below gives nodes edges others) where
  abbrev Bounded : Place → E → Type 0
  Bounded = IsBounded is_own is_below gives edges others

  least_bounded : (p : Place) (x : E) → IsLeast is_own is_below x → Bounded p x
  least_bounded (into n) x l = λ z o _. l.least z o
  least_bounded (value_of n) x l = λ y e. l.least y (solution.own n y e)

  flows_bounded : (m n : ℕ) (x : E) → HasEdge edges m n → is_own x → Bounded (value_of m) x → Bounded (into n) x
  flows_bounded m n x e o b = λ z oz above.
      let there : m < length others = rw solution.each_node (within m n e) in
      let found : (y : E) × (slice_get others m ≡ Some y) = at_index others m there in
      order.transitive x found.0 z o (solution.own m found.0 found.1) oz (b found.0 found.1) (above m found.0 e found.1)

  steps_bounded : (n : ℕ) (y z : E) → is_own y → is_own z → gives n y z → Bounded (into n) y → Bounded (value_of n) z
  steps_bounded n y z oy oz g b = λ w e.
      let ow : is_own w = solution.own n w e in
      let step : (v : E) × IsStep is_own is_below gives edges others n v × is_below v w = solution.at_least_step n w e in
      let made : IsStep is_own is_below gives edges others n step.0 = step.1 in
      let here : n < nodes = rw (← solution.each_node) (slice_get_within others n w e) in
      let rises : is_below y made.inflow = b made.inflow made.joined.own made.joined.above in
      order.transitive z step.0 w oz made.own ow (monotone n y made.inflow z step.0 here oy made.joined.own oz made.own rises g made.given) step.2

  joins_bounded : (p : Place) (x y z : E) → IsJoin is_own is_below x y z → Bounded p x → Bounded p y → Bounded p z
  joins_bounded (into n) x y z j bx by = λ w o above. j.least w o (bx w o above) (by w o above)
  joins_bounded (value_of n) x y z j bx by = λ w e. j.least w (solution.own n w e) (bx w e) (by w e)

  pub derivable_bounded : {p : Place} {x : E} → Derivable is_own is_below gives edges p x → Bounded p x
  derivable_bounded (least p x l) = least_bounded p x l
  derivable_bounded (flows m n x e d) = flows_bounded m n x e (derivable_own is_own is_below gives edges d) (derivable_bounded d)
  derivable_bounded (steps n y z d o g) = steps_bounded n y z (derivable_own is_own is_below gives edges d) o g (derivable_bounded d)
  derivable_bounded (joins p x y z d e j) = joins_bounded p x y z j (derivable_bounded d) (derivable_bounded e)

  -- what is derived as a node's value is at or below the step of its inflow
  abbrev AtMostStep : Place → E → Type 0
  AtMostStep (into n) x = Unit {0}
  AtMostStep (value_of n) x = (y z : E) → n < nodes → IsInflow is_own is_below edges others n y → is_own z → gives n y z → is_below x z

  least_at_most : (p : Place) (x : E) → IsLeast is_own is_below x → AtMostStep p x
  least_at_most (into n) x l = tt
  least_at_most (value_of n) x l = λ y z h inflow o g. l.least z o

  joins_at_most : (p : Place) (x y z : E) → IsJoin is_own is_below x y z → AtMostStep p x → AtMostStep p y → AtMostStep p z
  joins_at_most (into n) x y z j bx by = tt
  joins_at_most (value_of n) x y z j bx by = λ u v h inflow o g. j.least v o (bx u v h inflow o g) (by u v h inflow o g)

  pub derivable_at_most : {p : Place} {x : E} → Derivable is_own is_below gives edges p x → AtMostStep p x
  derivable_at_most (least p x l) = least_at_most p x l
  derivable_at_most (flows m n x e d) = tt
  derivable_at_most (steps n y z d o g) = λ u v h inflow ov gv.
      monotone n y u z v h (derivable_own is_own is_below gives edges d) inflow.own o ov (derivable_bounded d u inflow.own inflow.above) g gv
  derivable_at_most (joins p x y z d e j) = joins_at_most p x y z j (derivable_at_most d) (derivable_at_most e)
