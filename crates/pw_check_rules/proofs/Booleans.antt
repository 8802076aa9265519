-- Tests that are joined.
use Rattle.std.specs.Prelude.{◌≡◌, ◌⊎◌, Bool, true, false, not, ◌&&◌, ◌||◌, refl}
use Rattle.std.proofs.Common.{arith, inl, inr}

pub no : {A : Type 0} → false ≡ true → A
no e = grind arith

pub both : (a b : Bool) → a ≡ true → b ≡ true → (a && b) ≡ true
both true b e f = f
both false b e f = grind arith

pub left : (a b : Bool) → (a && b) ≡ true → a ≡ true
left true b e = refl
left false b e = grind arith

pub right : (a b : Bool) → (a && b) ≡ true → b ≡ true
right true b e = e
right false b e = grind arith

pub one_of : (a b : Bool) → (a || b) ≡ true → (a ≡ true) ⊎ (b ≡ true)
one_of true b e = inl refl
one_of false b e = inr e

pub first : (a b : Bool) → a ≡ true → (a || b) ≡ true
first true b e = refl
first false b e = grind arith

pub second : (a b : Bool) → b ≡ true → (a || b) ≡ true
second true b e = refl
second false b e = e

pub opposite : (a : Bool) → not a ≡ true → a ≡ false
opposite true e = grind arith
opposite false e = refl
