-- The order of temporaries by weight is one.
use Rattle.std.proofs.Common.{◌≡◌, ◌⊎◌, ℕ, zero, suc, ◌+◌, ◌<◌, ◌≤◌, Bool, true, false, List, [], ◌∷◌, refl, sym, ap, subst, ◌∙◌, arith, inl, inr}
use Rattle.std.specs.Prelude.{if◌then◌else◌, nat_lt}
use Rattle.std.specs.List.{AllByRecursion}
use Rattle.std.proofs.lemmas.Bool.{cases_order, ltb-true, ltb-false}
use Rattle.pw_files.proofs.Standing.{Has, has_each, each_by}
use Rattle.pw_db.specs.Database.{EachTwo}
use Rattle.pw_flow.specs.Outline.{Outline}
use Rattle.pw_alloc_temps.specs.Weights.{weight, put_by_weight, by_weight}

-- one of more weight comes first, of two of one weight the lesser number
abbrev pub Before : Outline → ℕ → ℕ → Type 0
Before f a b = (weight f b < weight f a) ⊎ ((weight f a ≡ weight f b) × (a < b))

further : (f : Outline) (a b c : ℕ) → Before f a b → Before f b c → Before f a c
further f a b c (inl x) (inl y) = inl (omega (arith, x, y))
further f a b c (inl x) (inr y) = let same = y.0 in inl (omega (arith, x, same))
further f a b c (inr x) (inl y) = let same = x.0 in inl (omega (arith, y, same))
further f a b c (inr x) (inr y) = let one = x.0 in let two = y.0 in let low = x.1 in let high = y.1 in inr (omega (arith, one, two), omega (arith, low, high))

pub never_both : (f : Outline) (a b : ℕ) → Before f a b → Before f b a → ⊥
never_both f a b (inl x) (inl y) = omega (arith, x, y)
never_both f a b (inl x) (inr y) = let same = y.0 in omega (arith, x, same)
never_both f a b (inr x) (inl y) = let same = x.0 in omega (arith, y, same)
never_both f a b (inr x) (inr y) = let low = x.1 in let high = y.1 in omega (arith, low, high)

-- ---- the list of all

has_put : (f : Outline) (t : ℕ) (b : Bool) (u : ℕ) (rest : List ℕ) (x : ℕ) → (Has x (put_by_weight f t rest) → (t ≡ x) ⊎ Has x rest)
    → Has x (if b then u ∷ put_by_weight f t rest else t ∷ u ∷ rest) → (t ≡ x) ⊎ Has x (u ∷ rest)
has_put f t true u rest x later (inl e) = inr (inl e)
has_put f t true u rest x later (inr h) = elim (later h) [ inl e ↦ inl e | inr k ↦ inr (inr k) ]
has_put f t false u rest x later (inl e) = inl e
has_put f t false u rest x later (inr h) = inr h

put_has : (f : Outline) (t : ℕ) (xs : List ℕ) (x : ℕ) → Has x (put_by_weight f t xs) → (t ≡ x) ⊎ Has x xs
put_has f t [] x (inl e) = inl e
put_has f t [] x (inr h) = absurd h
put_has f t (u ∷ rest) x h = has_put f t (nat_lt (weight f t) (weight f u)) u rest x (put_has f t rest x) h

put_step : (f : Outline) (t u : ℕ) (rest : List ℕ) (b : Bool) → nat_lt (weight f t) (weight f u) ≡ b → t < u
    → AllByRecursion (Before f u) rest → EachTwo (Before f) rest → EachTwo (Before f) (put_by_weight f t rest)
    → EachTwo (Before f) (if b then u ∷ put_by_weight f t rest else t ∷ u ∷ rest)
put_step f t u rest true e lt all two put =
    let less = ltb-true (weight f t) (weight f u) e in (
      each_by (Before f u) (put_by_weight f t rest) (λ x h. elim (put_has f t rest x h) [
        | inl same ↦ subst (Before f u) same (inl less)
        | inr k ↦ has_each (Before f u) rest x all k
      ]),
      put,
    )
put_step f t u rest false e lt all two put =
    let more = ltb-false (weight f t) (weight f u) e in
    let first : Before f t u = by more in (
      (first, each_by (Before f t) rest (λ x h. further f t u x first (has_each (Before f u) rest x all h))),
      (all, two),
    )
  where
    by : weight f u ≤ weight f t → Before f t u
    by le = elim (cases_order (weight f u) (weight f t)) [
      | inl same ↦ inr (sym same, lt)
      | inr way ↦ elim way [ inl low ↦ inl low | inr high ↦ absurd (omega (arith, le, high)) ]
    ]

put_sorted : (f : Outline) (t : ℕ) (xs : List ℕ) → AllByRecursion (λ u. t < u) xs → EachTwo (Before f) xs → EachTwo (Before f) (put_by_weight f t xs)
put_sorted f t [] low two = (tt, tt)
put_sorted f t (u ∷ rest) low two = put_step f t u rest (nat_lt (weight f t) (weight f u)) refl low.0 two.0 two.1 (put_sorted f t rest low.1 two.1)

pub has_between : (f : Outline) (i more x : ℕ) → Has x (by_weight f i more) → (i ≤ x) × (x < i + more)
has_between f i zero x h = absurd h
has_between f i (suc more) x h = elim (put_has f i (by_weight f (suc i) more) x h) [
  | inl e ↦ (omega (arith, e), omega (arith, e))
  | inr k ↦ let b = has_between f (suc i) more x k in let low = b.0 in let high = b.1 in (omega (arith, low), omega (arith, high))
]

pub in_order : (f : Outline) (i more : ℕ) → EachTwo (Before f) (by_weight f i more)
in_order f i zero = tt
in_order f i (suc more) =
    put_sorted f i (by_weight f (suc i) more)
    (each_by (λ u. i < u) (by_weight f (suc i) more) (λ x h. let b = has_between f (suc i) more x h in let low = b.0 in omega (arith, low)))
    (in_order f (suc i) more)

-- ---- two lists in order with the same numbers are one

not_first : (f : Outline) (x z : ℕ) (xs : List ℕ) → AllByRecursion (Before f x) xs → Has z xs → x ≡ z → ⊥
not_first f x z xs all h same = let b = subst (λ (y : ℕ). Before f x y) (sym same) (has_each (Before f x) xs z all h) in never_both f x x b b

pub one_order : (f : Outline) (xs ys : List ℕ) → EachTwo (Before f) xs → EachTwo (Before f) ys → ((x : ℕ) → Has x xs → Has x ys) → ((y : ℕ) → Has y ys → Has y xs) → xs ≡ ys
one_order f [] [] one two there back = refl
one_order f [] (y ∷ ys) one two there back = absurd (back y (inl refl))
one_order f (x ∷ xs) [] one two there back = absurd (there x (inl refl))
one_order f (x ∷ xs) (y ∷ ys) one two there back =
    let first : x ≡ y = elim (there x (inl refl)) [
      | inl e ↦ sym e
      | inr h ↦ elim (back y (inl refl)) [
        | inl e ↦ e
        | inr k ↦ absurd (never_both f x y (has_each (Before f x) xs y one.0 k) (has_each (Before f y) ys x two.0 h))
      ]
    ] in
    let rest : xs ≡ ys = one_order f xs ys one.1 two.1
    (λ z h. elim (there z (inr h)) [ inl e ↦ absurd (not_first f x z xs one.0 h (first ∙ e)) | inr k ↦ k ])
    (λ z h. elim (back z (inr h)) [ inl e ↦ absurd (not_first f y z ys two.0 h (sym first ∙ e)) | inr k ↦ k ]) in
    ap (λ (n : ℕ). n ∷ xs) first ∙ ap (λ (ns : List ℕ). y ∷ ns) rest
