-- Elements of lists.
use Rattle.std.specs.Prelude.{suc, ◌≡◌, ◌<◌, Bool, true, false, List, [], ◌∷◌, Contains}
use Rattle.std.proofs.Common.{arith, refl}

pub nowhere : {X : Type 0} (x : X) → Contains [] x → ⊥
nowhere x c = let h : c.0 < 0 = c.1 in omega (arith, h)

pub first_there : {X : Type 0} (x : X) (xs : List X) → Contains (x ∷ xs) x
first_there x xs = (0, omega arith, refl)

pub later_there : {X : Type 0} (y x : X) (xs : List X) → Contains xs x → Contains (y ∷ xs) x
later_there y x xs c = (suc c.0, omega (arith, c.1), c.2)

pub differ : (b : Bool) → b ≡ true → b ≡ false → ⊥
differ true e f = cc
differ false e f = cc
