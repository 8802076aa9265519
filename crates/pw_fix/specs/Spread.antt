-- What flows on from a node whose value has risen.
use Rattle.std.specs.Prelude.{◌≡◌, ℕ, ◌-◌, ◌⊎◌, List, sum_by}
use Rattle.pw_fix.specs.Order.{IsJoin}

-- what became of the inflow y of a node when x flowed on to the successors: z is the join of y and x at a successor and
-- y elsewhere, and the node waits where z is not as low as y
pub record IsSpread {E : Type 0} (is_own : E → Type 0) (is_below : E → E → Type 0) (is_successor : Type 0) (x y z : E) (waits : Type 0) : Type 0 where
  pub outcome : (z ≡ y) ⊎ (is_successor × IsJoin is_own is_below y x z)
  pub covers : is_successor → is_below x z
  pub waiting : waits ⊎ is_below z y

-- how far the elements can still rise, all together
abbrev pub room : {E : Type 0} → (E → ℕ) → ℕ → List E → ℕ
room rank height ys = sum_by (λ y. height - rank y) ys
