-- What stands in parts of lists.
use Rattle.std.proofs.Common.{◌≡◌, ◌⊎◌, ℕ, zero, suc, ◌+◌, ◌<◌, ◌≤◌, ◌==◌, not, Bool, true, false, cond, List, [], ◌∷◌, refl, sym, ap, ◌∙◌, arith, inl, inr}
use Rattle.std.specs.Prelude.{Some, slice_get, filter, Contains}
use Rattle.std.specs.List.{AllByRecursion, list_any, range_with_len}
use Rattle.std.proofs.lemmas.Bool.{cases_eq, or_cases, or_left, or_right, eq-eqb, eqb-true}
use Rattle.pw_files.proofs.Standing.{Has, contains_by}
use Rattle.pw_db.specs.Database.{EachTwo}

-- ---- where something stands

pub record At {X : Type 0} (xs : List X) (x : X) : Type 0 where
  pub place : ℕ
  pub is : slice_get xs place ≡ Some x

pub stands_at : {X : Type 0} (x : X) (xs : List X) → Has x xs → At xs x
stands_at x [] h = absurd h
stands_at x (y ∷ ys) (inl e) = record { place = 0; is = ap Some e }
stands_at x (y ∷ ys) (inr h) = let r = stands_at x ys h in record { place = suc r.place; is = r.is }

pub listed : (n : ℕ) (ns : List ℕ) → Has n ns → list_any (λ m. m == n) ns ≡ true
listed n [] h = absurd h
listed n (m ∷ ns) (inl e) = or_left (m == n) (list_any (λ k. k == n) ns) (eq-eqb m n e)
listed n (m ∷ ns) (inr h) = or_right (m == n) (list_any (λ k. k == n) ns) (listed n ns h)

pub has_listed : (n : ℕ) (ns : List ℕ) → list_any (λ m. m == n) ns ≡ true → Has n ns
has_listed n [] e = absurd cc
has_listed n (m ∷ ns) e = elim (or_cases (m == n) (list_any (λ k. k == n) ns) e) [
  | inl h ↦ inl (eqb-true m n h)
  | inr h ↦ inr (has_listed n ns h)
]

pub not_listed : (n : ℕ) (ns : List ℕ) → ¬ Contains ns n → not (list_any (λ m. m == n) ns) ≡ true
not_listed n ns out = by_test (list_any (λ m. m == n) ns) refl
  where
    by_test : (b : Bool) → list_any (λ m. m == n) ns ≡ b → not b ≡ true
    by_test true e = absurd (out (contains_by n ns (has_listed n ns e)))
    by_test false e = refl

pub some_passes : {X : Type 0} (p : X → Bool) (x : X) (xs : List X) → Has x xs → p x ≡ true → list_any p xs ≡ true
some_passes p x [] h e = absurd h
some_passes p x (y ∷ ys) (inl same) e = or_left (p y) (list_any p ys) (ap p same ∙ e)
some_passes p x (y ∷ ys) (inr h) e = or_right (p y) (list_any p ys) (some_passes p x ys h e)

pub record Passing {X : Type 0} (p : X → Bool) (xs : List X) : Type 0 where
  pub is : X
  pub there : Has is xs
  pub passes : p is ≡ true

pub passing : {X : Type 0} (p : X → Bool) (xs : List X) → list_any p xs ≡ true → Passing p xs
passing p [] e = absurd cc
passing p (x ∷ xs) e = elim (or_cases (p x) (list_any p xs) e) [
  | inl h ↦ record { is = x; there = inl refl; passes = h }
  | inr h ↦ let r = passing p xs h in record { is = r.is; there = inr r.there; passes = r.passes }
]

-- ---- those that pass a test

pub record Kept {X : Type 0} (p : X → Bool) (x : X) (xs : List X) : Type 0 where
  pub there : Has x xs
  pub passes : p x ≡ true

kept_step : {X : Type 0} (p : X → Bool) (b : Bool) (y x : X) (xs ys : List X) → p y ≡ b → (Has x ys → Kept p x xs) → Has x (cond b (y ∷ ys) ys) → Kept p x (y ∷ xs)
kept_step p true y x xs ys is later (inl e) = record { there = inl e; passes = sym (ap p e) ∙ is }
kept_step p true y x xs ys is later (inr h) = let k = later h in record { there = inr k.there; passes = k.passes }
kept_step p false y x xs ys is later h = let k = later h in record { there = inr k.there; passes = k.passes }

pub kept : {X : Type 0} (p : X → Bool) (x : X) (xs : List X) → Has x (filter p xs) → Kept p x xs
kept p x [] h = absurd h
kept p x (y ∷ ys) h = kept_step p (p y) y x ys (filter p ys) refl (kept p x ys) h

first_stays : {X : Type 0} (b : Bool) (y x : X) (ys : List X) → b ≡ true → y ≡ x → Has x (cond b (y ∷ ys) ys)
first_stays true y x ys e same = inl same
first_stays false y x ys e same = absurd cc

later_stays : {X : Type 0} (b : Bool) (y x : X) (ys : List X) → Has x ys → Has x (cond b (y ∷ ys) ys)
later_stays true y x ys h = inr h
later_stays false y x ys h = h

pub stays : {X : Type 0} (p : X → Bool) (x : X) (xs : List X) → Has x xs → p x ≡ true → Has x (filter p xs)
stays p x [] h e = absurd h
stays p x (y ∷ ys) (inl same) e = first_stays (p y) y x (filter p ys) (ap p same ∙ e) same
stays p x (y ∷ ys) (inr h) e = later_stays (p y) y x (filter p ys) (stays p x ys h e)

each_if : {X : Type 0} (P : X → Type 0) (b : Bool) (x : X) (ys : List X) → P x → AllByRecursion P ys → AllByRecursion P (cond b (x ∷ ys) ys)
each_if P true x ys h all = (h, all)
each_if P false x ys h all = all

each_kept : {X : Type 0} (P : X → Type 0) (p : X → Bool) (xs : List X) → AllByRecursion P xs → AllByRecursion P (filter p xs)
each_kept P p [] all = tt
each_kept P p (x ∷ xs) all = each_if P (p x) x (filter p xs) all.0 (each_kept P p xs all.1)

two_if : {X : Type 0} (R : X → X → Type 0) (b : Bool) (x : X) (ys : List X) → AllByRecursion (R x) ys → EachTwo R ys → EachTwo R (cond b (x ∷ ys) ys)
two_if R true x ys h all = (h, all)
two_if R false x ys h all = all

two_kept : {X : Type 0} (R : X → X → Type 0) (p : X → Bool) (xs : List X) → EachTwo R xs → EachTwo R (filter p xs)
two_kept R p [] all = tt
two_kept R p (x ∷ xs) all = two_if R (p x) x (filter p xs) (each_kept (R x) p xs all.0) (two_kept R p xs all.1)

-- ---- numbers from one on

pub within : (a n r : ℕ) → Has r (range_with_len a n) → (a ≤ r) × (r < a + n)
within a zero r h = absurd h
within a (suc n) r (inl e) = (omega (arith, e), omega (arith, e))
within a (suc n) r (inr h) = let k = within (a + 1) n r h in (omega (arith, k.0), omega (arith, k.1))

pub all_within : (a n r : ℕ) → a ≤ r → r < a + n → Has r (range_with_len a n)
all_within a zero r low high = absurd (omega (arith, low, high))
all_within a (suc n) r low high = elim (first_or_later a r low) [
  | inl e ↦ inl e
  | inr up ↦ inr (all_within (a + 1) n r up (omega (arith, high)))
]
  where
    first_or_later : (a r : ℕ) → a ≤ r → (a ≡ r) ⊎ (a + 1 ≤ r)
    first_or_later a r le = elim (cases_eq a r) [ inl e ↦ inl e | inr other ↦ inr (omega arith) ]

above : (low a n : ℕ) → low < a → AllByRecursion (λ q. low < q) (range_with_len a n)
above low a zero lt = tt
above low a (suc n) lt = (lt, above low (a + 1) n (omega (arith, lt)))

pub rises : (p : ℕ → Bool) (a n : ℕ) → EachTwo (λ r q. r < q) (filter p (range_with_len a n))
rises p a n = two_kept (λ r q. r < q) p (range_with_len a n) (all_rise a n)
  where
    all_rise : (a n : ℕ) → EachTwo (λ r q. r < q) (range_with_len a n)
    all_rise a zero = tt
    all_rise a (suc n) = (above a (a + 1) n (omega arith), all_rise (a + 1) n)
