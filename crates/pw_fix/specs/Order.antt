-- The order of a lattice's own elements: least elements, joins, and what an order is.

-- every element is at or below itself, and so is what is at or below something at or below it
pub record IsPreorder {E : Type 0} (is_own : E → Type 0) (is_below : E → E → Type 0) : Type 0 where
  pub reflexive : (x : E) → is_own x → is_below x x
  pub transitive : (x y z : E) → is_own x → is_own y → is_own z → is_below x y → is_below y z → is_below x z

-- x is at or below every element
pub record IsLeast {E : Type 0} (is_own : E → Type 0) (is_below : E → E → Type 0) (x : E) : Type 0 where
  pub own : is_own x
  pub least : (y : E) → is_own y → is_below x y

-- z is the least upper bound of x and y
pub record IsJoin {E : Type 0} (is_own : E → Type 0) (is_below : E → E → Type 0) (x y z : E) : Type 0 where
  pub own : is_own z
  pub above_first : is_below x z
  pub above_second : is_below y z
  pub least : (w : E) → is_own w → is_below x w → is_below y w → is_below z w
