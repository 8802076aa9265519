-- Lists, item by item.
use Rattle.std.specs.Prelude.{ℕ, zero, suc, ◌≡◌, ◌≢◌, ◌⊎◌, ◌+◌, ◌<◌, ◌++◌, List, [], ◌∷◌, length, replicate, slice_index_or, Contains}
use Rattle.std.proofs.Common.{refl, ap, arith, inl, inr}
use Rattle.std.proofs.lemmas.Bool.{cases_lt}
use Rattle.std.proofs.lemmas.List.{get_or-replicate, get_or_past, length-replicate}

-- one item more at the end
pub pushed_at : {X : Type 0} (xs : List X) (x d : X) (k : ℕ) → ((k ≡ length xs) × (slice_index_or (xs ++ x ∷ []) k d ≡ x)) ⊎ ((k ≢ length xs) × (slice_index_or (xs ++ x ∷ []) k d ≡ slice_index_or xs k d))
pushed_at [] x d zero = inl (refl, refl)
pushed_at [] x d (suc k) = inr (λ e. absurd (omega (arith, e)), refl)
pushed_at (y ∷ xs) x d zero = inr (λ e. absurd (omega (arith, e)), refl)
pushed_at (y ∷ xs) x d (suc k) = elim (pushed_at xs x d k) [
  | inl w ↦ inl (ap suc w.0, w.1)
  | inr w ↦ inr (λ e. w.0 (omega (arith, e)), w.1)
]

pub pushed_long : {X : Type 0} (xs : List X) (x : X) → length (xs ++ x ∷ []) ≡ suc (length xs)
pushed_long [] x = refl
pushed_long (y ∷ xs) x = ap suc (pushed_long xs x)

pub all_alike : {X : Type 0} (n k : ℕ) (x : X) → slice_index_or (replicate n x) k x ≡ x
all_alike n k x = elim (cases_lt k n) [
  | inl lt ↦ get_or-replicate n k x x lt
  | inr ge ↦ let long : length (replicate n x) ≡ n = length-replicate n x in get_or_past (replicate n x) k x (omega (arith, ge, long))
]

-- the first or a later one
first_or : {X : Type 0} (y x : X) (xs : List X) (k : ℕ) → k < suc (length xs) → slice_index_or (y ∷ xs) k x ≡ x → (y ≡ x) ⊎ Contains xs x
first_or y x xs zero lt e = inl e
first_or y x xs (suc k) lt e = inr (k, omega (arith, lt), e)

pub contains_cases : {X : Type 0} (y x : X) (xs : List X) → Contains (y ∷ xs) x → (y ≡ x) ⊎ Contains xs x
contains_cases y x xs c = first_or y x xs c.0 c.1 c.2
