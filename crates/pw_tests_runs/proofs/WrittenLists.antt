-- Lists that are written out, item by item.
use Rattle.std.specs.Prelude.{ℕ, zero, suc, ◌≡◌, ◌<◌, Some, unwrap_or, List, [], ◌∷◌, length, slice_get, slice_index, Contains}
use Rattle.std.specs.List.{AllByRecursion}
use Rattle.std.specs.List.Sorted.{IsStrictlyIncreasing}
use Rattle.std.proofs.Common.{arith, subst, ap}
use Rattle.std.proofs.lemmas.List.Elements.{All-contains, All-from_recursion}

pub nowhere : {X : Type 0} (x : X) → Contains [] x → ⊥
nowhere x c = let none : c.0 < 0 = c.1 in omega (arith, none)

-- what holds of each item holds of one that stands there
pub each : {X : Type 0} (P : X → Type 0) (xs : List X) → AllByRecursion P xs → (x : X) → Contains xs x → P x
each P xs all x c = All-contains P xs x (All-from_recursion P xs all) c

-- where each item of one list stands in another
pub moved : {X : Type 0} (xs ys : List X) → AllByRecursion (Contains ys) xs → (x : X) → Contains xs x → Contains ys x
moved xs ys all = each (Contains ys) xs all

-- what holds of each item with its place
abbrev pub EachAt : {X : Type 0} → (ℕ → X → Type 0) → List X → Type 0
EachAt P [] = Unit {0}
EachAt P (x ∷ xs) = P 0 x × EachAt (λ i. P (suc i)) xs

pub each_at : {X : Type 0} (P : ℕ → X → Type 0) (xs : List X) → EachAt P xs → (i : ℕ) (x : X) → slice_get xs i ≡ Some x → P i x
each_at P [] all i x e = absurd cc
each_at P (y ∷ ys) all zero x e = subst (P 0) (ap (λ o. unwrap_or o y) e) all.0
each_at P (y ∷ ys) all (suc i) x e = each_at (λ i. P (suc i)) ys all.1 i x e

-- what holds of two items that are given
pub of_two : {X Y : Type 0} (P : X → Y → Type 0) (x : X) (y : Y) → P x y → (a : X) (b : Y) → Some x ≡ Some a → Some y ≡ Some b → P a b
of_two P x y p a b e k =
    subst (P a) (ap (λ o. unwrap_or o y) k) (subst (λ a. P a y) (ap (λ o. unwrap_or o x) e) p)

-- ---- numbers that rise

pub rising_none : IsStrictlyIncreasing []
rising_none k within = absurd (omega (arith, within))

pub rising_one : (a : ℕ) → IsStrictlyIncreasing (a ∷ [])
rising_one a k within = absurd (omega (arith, within))

pub rising_two : (a b : ℕ) → a < b → IsStrictlyIncreasing (a ∷ b ∷ [])
rising_two a b lt zero within = lt
rising_two a b lt (suc k) within = absurd (omega (arith, within))
