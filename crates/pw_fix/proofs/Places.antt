-- The elements of a list by their places, after a write, a push or a pop.
use Rattle.std.proofs.Common.{◌≡◌, ◌≢◌, ℕ, zero, suc, ◌<◌, List, [], ◌∷◌, ◌++◌, length, Some, sym, ap, subst, arith, inl, inr, ◌⊎◌, get_or, set, ◌∙◌, refl, get_or-set_same, All, take, drop}
use Rattle.std.specs.Prelude.{slice_get, Contains}
use Rattle.std.proofs.lemmas.Bool.{cases_eq}
use Rattle.std.proofs.lemmas.Grind.{common_steps}
use Rattle.std.proofs.lemmas.Option.{slice_get_within, slice_get-get_or, get_or_from_slice_get, slice_get_cases, same_Some}
use Rattle.std.proofs.Math.ListN.{length-set}

-- an element below the length is there
pub at_index : {E : Type 0} (xs : List E) (n : ℕ) → n < length xs → (x : E) × (slice_get xs n ≡ Some x)
at_index xs n h = elim (slice_get_cases xs n).1 [ inl w ↦ (w.0, w.2) | inr w ↦ absurd (omega arith) ]

-- what was written is there
pub slice_get-set_same : {E : Type 0} (xs : List E) (n : ℕ) (v : E) → n < length xs → slice_get (set xs n v) n ≡ Some v
slice_get-set_same xs n v h =
    slice_get-get_or (set xs n v) n v (rw (length-set xs n v) h) ∙ ap Some (get_or-set_same xs n v v h)

-- the other places keep their elements
pub slice_get-set_other : {E : Type 0} (xs : List E) (n m : ℕ) (v : E) → m ≢ n → slice_get (set xs n v) m ≡ slice_get xs m
slice_get-set_other [] n m v other = refl
slice_get-set_other (x ∷ xs) zero zero v other = absurd (other refl)
slice_get-set_other (x ∷ xs) zero (suc m) v other = refl
slice_get-set_other (x ∷ xs) (suc n) zero v other = refl
slice_get-set_other (x ∷ xs) (suc n) (suc m) v other = slice_get-set_other xs n m v (λ e. other (ap suc e))

-- an element of `set xs n v` is v at n, and else that of xs
pub set_cases : {E : Type 0} (xs : List E) (n m : ℕ) (v w : E) → slice_get (set xs n v) m ≡ Some w → ((m ≡ n) × (w ≡ v)) ⊎ ((m ≢ n) × (slice_get xs m ≡ Some w))
set_cases xs n m v w e =
    let long : m < length (set xs n v) = slice_get_within (set xs n v) m w e in
    let short : m < length xs = rw (length-set xs n v) at long in
    elim (cases_eq m n) [
      | inl same ↦ inl (same, same_Some w v (sym e ∙ rw same (slice_get-set_same xs n v (subst (λ k. k < length xs) same short))))
      | inr other ↦ inr (other, sym (slice_get-set_other xs n m v other) ∙ e)
    ]

-- the first element, or one of the others
pub Contains-cons_cases : {E : Type 0} (x : E) (xs : List E) (y : E) → Contains (x ∷ xs) y → (x ≡ y) ⊎ Contains xs y
Contains-cons_cases x xs y (zero, h, e) = inl e
Contains-cons_cases x xs y (suc k, h, e) = inr (k, omega arith, e)

-- the first is an element
pub Contains-head : {E : Type 0} (x : E) (xs : List E) → Contains (x ∷ xs) x
Contains-head x xs = (zero, omega arith, refl)

-- an element of the others is one of all
pub Contains-cons : {E : Type 0} (x : E) (xs : List E) (y : E) → Contains xs y → Contains (x ∷ xs) y
Contains-cons x xs y w = (suc w.0, omega arith, w.2)

-- what holds of all elements holds of the one at n
pub All-at : {E : Type 0} (P : E → Type 0) (xs : List E) (n : ℕ) (x : E) → All P xs → slice_get xs n ≡ Some x → P x
All-at P xs n x all e = subst P (get_or_from_slice_get xs n x x e) (all n x (slice_get_within xs n x e))

-- every element that is read by its place has the property
pub All-from_at : {E : Type 0} (P : E → Type 0) (xs : List E) → ((n : ℕ) (x : E) → slice_get xs n ≡ Some x → P x) → All P xs
All-from_at P xs each k d h = each k (get_or xs k d) (slice_get-get_or xs k d h)

-- what a loan of all of the elements leaves
pub all_written : {E : Type 0} (n : ℕ) (xs ys : List E) → length xs ≡ n → length ys ≡ n → take n (xs ++ drop (length xs) ys) ≡ xs
all_written n xs ys hx hy = grind (arith, common_steps)
