-- Lists in the order of a number, whose items of one number stand as they stood.
use Rattle.std.proofs.Common.{◌≡◌, ℕ, zero, suc, ◌<◌, ◌≤◌, ◌==◌, ◌&&◌, ◌⊎◌, not, Bool, true, false, cond, List, [], ◌∷◌, length, get_or, map, refl, sym, ap, ap₂, subst, ◌∙◌, inl, inr, arith}
use Rattle.std.specs.Prelude.{filter}
use Rattle.std.specs.List.{All, AllByRecursion}
use Rattle.std.specs.List.Sorted.{IsNonDecreasingBy, IsPermutation, IsStableByKey, ties}
use Rattle.std.specs.Ordering.{nat_cmp, is_lt}
use Rattle.std.proofs.lemmas.Bool.{cases_eq, cases_lt, eq-eqb, ne_eqb, lt-ltb, le-ltb}
use Rattle.std.proofs.lemmas.List.Sorted.{All-permutation}
use Rattle.std.proofs.lemmas.List.{get_or-map, length-map}

-- ---- the items of one number

abbrev pub at : {X : Type 0} → (X → ℕ) → ℕ → List X → List X
at key n = filter (λ x. key x == n)

pub yes : (n : ℕ) → (n == n) ≡ true
yes n = eq-eqb n n refl

find_with : {X : Type 0} (key : X → ℕ) (n : ℕ) (xs : List X) → ((x : X) × (key x ≡ n)) ⊎ (at key n xs ≡ [])
find_with key n [] = inr refl
find_with key n (x ∷ xs) =
    elim (cases_eq (key x) n) [
      | inl same ↦ inl (x, same)
      | inr apart ↦ elim (find_with key n xs) [
        | inl found ↦ inl found
        | inr none ↦ inr (rw (ne_eqb (key x) n apart) none)
      ]
    ]

tied : (m n : ℕ) → (not (is_lt (nat_cmp m n)) && not (is_lt (nat_cmp n m))) ≡ (n == m)
tied m n =
    elim (cases_lt m n) [
      | inl low ↦
          let apart : n ≡ m → ⊥ = λ e. omega arith in
          rw (lt-ltb m n low, ne_eqb n m apart) refl
      | inr high ↦ elim (cases_eq n m) [
        | inl same ↦ rw (le-ltb m n high, eq-eqb n m same, eq-eqb m n (sym same), le-ltb n m (omega (arith, same))) refl
        | inr apart ↦
            let low : n < m = omega (arith, high, apart) in
            let other : m ≡ n → ⊥ = λ e. apart (sym e) in
            rw (le-ltb m n high, ne_eqb m n other, lt-ltb n m low, ne_eqb n m apart) refl
      ]
    ]

-- what is stable keeps the items of each number in their order
pub each_stays : {X : Type 0} (key : X → ℕ) (xs ys : List X) → IsStableByKey key nat_cmp xs ys → (n : ℕ) → at key n ys ≡ at key n xs
each_stays {X} key xs ys stable n =
    elim (find_with key n ys) [
      | inl found ↦ through found
      | inr none ↦ elim (find_with key n xs) [
        | inl found ↦ through found
        | inr nothing ↦ none ∙ sym nothing
      ]
    ]
  where
    through : (x : X) × (key x ≡ n) → at key n ys ≡ at key n xs
    through found =
        let same : ◌≡◌ {A = X → Bool} (ties (λ x y. is_lt (nat_cmp (key x) (key y))) found.0) (λ y. key y == n) = λ i y. (tied (key found.0) (key y) ∙ ap (λ m. key y == m) found.1) i in
        subst (λ (p : X → Bool). filter p ys ≡ filter p xs) same (stable found.0)

-- ---- lists that are seen through a view

pub filter_view : {R X : Type 0} (view : R → X) (p : X → Bool) (xs : List R) → filter p (map view xs) ≡ map view (filter (λ x. p (view x)) xs)
filter_view view p [] = refl
filter_view {R} {X} view p (x ∷ xs) = go (p (view x)) (filter_view view p xs)
  where
    go : (b : Bool) → filter p (map view xs) ≡ map view (filter (λ y. p (view y)) xs)
        → cond b (view x ∷ filter p (map view xs)) (filter p (map view xs)) ≡ map view (cond b (x ∷ filter (λ y. p (view y)) xs) (filter (λ y. p (view y)) xs))
    go true rest = ap (λ (ys : List X). view x ∷ ys) rest
    go false rest = rest

pub rising_view : {R X : Type 0} (view : R → X) (key : X → ℕ) (xs : List R) → IsNonDecreasingBy (λ x. key (view x)) xs → IsNonDecreasingBy key (map view xs)
rising_view view key [] up i j d le lt = absurd (omega (arith, lt))
rising_view view key (x ∷ xs) up i j d le lt =
    let within : j < length (x ∷ xs) = omega (arith, lt, length-map (x ∷ xs) view) in
    let before : i < length (x ∷ xs) = omega (arith, within, le) in
    rw (get_or-map view (x ∷ xs) i x d before, get_or-map view (x ∷ xs) j x d within) (up i j x le within)

-- ---- the same by recursion

pub all_from : {X : Type 0} (key : X → ℕ) (m : ℕ) (xs : List X) → ((i : ℕ) (d : X) → i < length xs → m ≤ key (get_or xs i d)) → AllByRecursion (λ x. m ≤ key x) xs
all_from key m [] low = tt
all_from key m (x ∷ xs) low = (low 0 x (omega arith), all_from key m xs (λ i d lt. low (suc i) d (omega (arith, lt))))

pub first_is_least : {X : Type 0} (key : X → ℕ) (x : X) (xs : List X) → IsNonDecreasingBy key (x ∷ xs) → AllByRecursion (λ y. key x ≤ key y) xs
first_is_least key x xs up = all_from key (key x) xs (λ i d lt. up 0 (suc i) d (omega arith) (omega (arith, lt)))

pub rest_rises : {X : Type 0} (key : X → ℕ) (x : X) (xs : List X) → IsNonDecreasingBy key (x ∷ xs) → IsNonDecreasingBy key xs
rest_rises key x xs up i j d le lt = up (suc i) (suc j) d (omega (arith, le)) (omega (arith, lt))

-- ---- two lists that rise are one, where they have the same items of each number in the same order

least : {X : Type 0} (key : X → ℕ) (m n : ℕ) (xs : List X) (y : X) (rest : List X) → AllByRecursion (λ x. m ≤ key x) xs → at key n xs ≡ y ∷ rest → m ≤ n
least key m n [] y rest low e = absurd cc
least key m n (x ∷ xs) y rest low e =
    elim (cases_eq (key x) n) [
      | inl same ↦ omega (arith, low.0, same)
      | inr apart ↦ least key m n xs y rest low.1 (rw (ne_eqb (key x) n apart) at e)
    ]

pub one_order : {X : Type 0} (key : X → ℕ) (xs ys : List X) → IsNonDecreasingBy key xs → IsNonDecreasingBy key ys → ((n : ℕ) → at key n xs ≡ at key n ys) → xs ≡ ys
one_order key [] [] up other same = refl
one_order {X} key [] (y ∷ ys) up other same =
    let e : [] ≡ y ∷ at key (key y) ys = rw (yes (key y)) at (same (key y)) in
    absurd cc
one_order {X} key (x ∷ xs) [] up other same =
    let e : x ∷ at key (key x) xs ≡ [] = rw (yes (key x)) at (same (key x)) in
    absurd cc
one_order {X} key (x ∷ xs) (y ∷ ys) up other same =
    let one : x ∷ at key (key x) xs ≡ at key (key x) (y ∷ ys) = rw (yes (key x)) at (same (key x)) in
    let two : at key (key y) (x ∷ xs) ≡ y ∷ at key (key y) ys = rw (yes (key y)) at (same (key y)) in
    let low : key y ≤ key x = least key (key y) (key x) (y ∷ ys) x (at key (key x) xs) (omega arith, first_is_least key y ys other) (sym one) in
    let high : key x ≤ key y = least key (key x) (key y) (x ∷ xs) y (at key (key y) ys) (omega arith, first_is_least key x xs up) two in
    let level : key y ≡ key x = omega (arith, low, high) in
    let firsts : x ∷ at key (key x) xs ≡ y ∷ at key (key x) ys = rw (eq-eqb (key y) (key x) level) at one in
    let head : x ≡ y = cc in
    let tails : (n : ℕ) → at key n xs ≡ at key n ys = λ n. elim (cases_eq (key x) n) [
      | inl here ↦ subst (λ (m : ℕ). at key m xs ≡ at key m ys) here cc
      | inr apart ↦
          let away : key y ≡ n → ⊥ = λ e. apart (sym level ∙ e) in
          let both : cond (key x == n) (x ∷ at key n xs) (at key n xs) ≡ cond (key y == n) (y ∷ at key n ys) (at key n ys) = same n in
          rw (ne_eqb (key x) n apart, ne_eqb (key y) n away) at both
    ] in
    ap₂ (λ (z : X) (zs : List X). z ∷ zs) head (one_order key xs ys (rest_rises key x xs up) (rest_rises key y ys other) tails)

-- ---- what holds of each item, in another order

to_all : {X : Type 0} (P : X → Type 0) (xs : List X) → AllByRecursion P xs → All P xs
to_all P [] all k d lt = absurd (omega (arith, lt))
to_all P (x ∷ xs) all zero d lt = all.0
to_all P (x ∷ xs) all (suc k) d lt = to_all P xs all.1 k d (omega (arith, lt))

from_all : {X : Type 0} (P : X → Type 0) (xs : List X) → All P xs → AllByRecursion P xs
from_all P [] all = tt
from_all P (x ∷ xs) all = (all 0 x (omega arith), from_all P xs (λ k d lt. all (suc k) d (omega (arith, lt))))

pub moved : {X : Type 0} (P : X → Type 0) (xs ys : List X) → IsPermutation xs ys → AllByRecursion P xs → AllByRecursion P ys
moved P xs ys perm all = from_all P ys (All-permutation P xs ys perm (to_all P xs all))
