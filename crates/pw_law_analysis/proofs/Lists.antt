-- Lists: what a filter keeps, what a search finds, names that stand once, sums that are positive.
use Rattle.std.proofs.Common.{◌≡◌, ◌≢◌, ℕ, zero, suc, ◌*◌, ◌^◌, ◌<◌, ◌≤◌, Bool, true, false, ◌||◌, ◌&&◌, cond, List, [], ◌∷◌, ◌++◌, map, refl, sym, ap, subst, ◌∙◌, arith, inl, inr}
use Rattle.std.specs.Prelude.{Some}
use Rattle.std.specs.List.{filter, find, list_any, sum_by, count_by}
use Rattle.std.specs.Str.{bytes_eq}
use Rattle.std.proofs.lemmas.Bool.{cases_lt}
use Rattle.std.proofs.lemmas.Option.{same_Some}
use Rattle.std.proofs.lemmas.List.Sums.{sum_by-cons}
use Rattle.std.proofs.lemmas.Slice.Eq.{bytes_eq-Decides}
use Rattle.std.proofs.Math.Nat.{pow-suc, mul-pos}
use Rattle.pw_flow.specs.ValidFlow.{AreDistinct}
use Rattle.pw_files.proofs.Standing.{Has, has_each, has_right, has_map}

-- ---- truth values

pub both : (a b : Bool) → a ≡ true → b ≡ true → (a && b) ≡ true
both true b d e = e
both false b d e = absurd cc

pub both_back : (a b : Bool) → (a && b) ≡ true → (a ≡ true) × (b ≡ true)
both_back true b e = (refl, e)
both_back false b e = absurd cc

or_true : (a b : Bool) → b ≡ true → (a || b) ≡ true
or_true true b e = refl
or_true false b e = e

pub clash : (b : Bool) → b ≡ true → b ≡ false → ⊥
clash true d e = cc
clash false d e = cc

-- ---- filters

filter_on : {X : Type 0} (b : Bool) (x y : X) (xs : List X) → Has x xs → Has x (cond b (y ∷ xs) xs)
filter_on true x y xs h = inr h
filter_on false x y xs h = h

pub has_filter : {X : Type 0} (test : X → Bool) (x : X) (xs : List X) → Has x xs → test x ≡ true → Has x (filter test xs)
has_filter test x [] h e = absurd h
has_filter test x (y ∷ ys) (inl same) e =
    let on : test y ≡ true = ap test same ∙ e in
    subst (λ (b : Bool). Has x (cond b (y ∷ filter test ys) (filter test ys))) (sym on) (inl same)
has_filter test x (y ∷ ys) (inr h) e = filter_on (test y) x y (filter test ys) (has_filter test x ys h e)

filter_off : {X : Type 0} (test : X → Bool) (b : Bool) (x y : X) (ys : List X) → test y ≡ b → (Has x (filter test ys) → Has x ys × (test x ≡ true)) → Has x (cond b (y ∷ filter test ys) (filter test ys)) → Has x (y ∷ ys) × (test x ≡ true)
filter_off test true x y ys e f (inl same) = (inl same, ap test (sym same) ∙ e)
filter_off test true x y ys e f (inr h) = let r = f h in (inr r.0, r.1)
filter_off test false x y ys e f h = let r = f h in (inr r.0, r.1)

pub has_filter_back : {X : Type 0} (test : X → Bool) (x : X) (xs : List X) → Has x (filter test xs) → Has x xs × (test x ≡ true)
has_filter_back test x [] h = absurd h
has_filter_back test x (y ∷ ys) h = filter_off test (test y) x y ys refl (has_filter_back test x ys) h

-- ---- searches

found_by : {X : Type 0} (test : X → Bool) (b : Bool) (x y : X) (ys : List X) → test y ≡ b → (find test ys ≡ Some x → Has x ys × (test x ≡ true)) → cond b (Some y) (find test ys) ≡ Some x → Has x (y ∷ ys) × (test x ≡ true)
found_by test true x y ys e f g = let same : y ≡ x = same_Some y x g in (inl same, ap test (sym same) ∙ e)
found_by test false x y ys e f g = let r = f g in (inr r.0, r.1)

pub found : {X : Type 0} (test : X → Bool) (xs : List X) (x : X) → find test xs ≡ Some x → Has x xs × (test x ≡ true)
found test [] x e = absurd cc
found test (y ∷ ys) x e = found_by test (test y) x y ys refl (found test ys x) e

finds_by : {X : Type 0} (test : X → Bool) (b : Bool) (x y : X) (ys : List X) → test y ≡ b → Has x (y ∷ ys) → test x ≡ true → (Has x ys → (z : X) × (find test ys ≡ Some z)) → (z : X) × (cond b (Some y) (find test ys) ≡ Some z)
finds_by test true x y ys e h t f = (y, refl)
finds_by test false x y ys e (inl same) t f = absurd (clash (test y) (ap test same ∙ t) e)
finds_by test false x y ys e (inr h) t f = f h

pub finds : {X : Type 0} (test : X → Bool) (xs : List X) (x : X) → Has x xs → test x ≡ true → (z : X) × (find test xs ≡ Some z)
finds test [] x h e = absurd h
finds test (y ∷ ys) x h e = finds_by test (test y) x y ys refl h e (λ k. finds test ys x k e)

any_by : {X : Type 0} (test : X → Bool) (b : Bool) (y : X) (ys : List X) → test y ≡ b → (list_any test ys ≡ true → (x : X) × Has x ys × (test x ≡ true)) → (b || list_any test ys) ≡ true → (x : X) × Has x (y ∷ ys) × (test x ≡ true)
any_by test true y ys e f o = (y, inl refl, e)
any_by test false y ys e f o = let r = f o in (r.0, inr r.1, r.2)

pub any_has : {X : Type 0} (test : X → Bool) (xs : List X) → list_any test xs ≡ true → (x : X) × Has x xs × (test x ≡ true)
any_has test [] e = absurd cc
any_has test (y ∷ ys) e = any_by test (test y) y ys refl (any_has test ys) e

pub has_any : {X : Type 0} (test : X → Bool) (xs : List X) (x : X) → Has x xs → test x ≡ true → list_any test xs ≡ true
has_any test [] x h e = absurd h
has_any test (y ∷ ys) x (inl same) e =
    let on : test y ≡ true = ap test same ∙ e in
    subst (λ (b : Bool). (b || list_any test ys) ≡ true) (sym on) refl
has_any test (y ∷ ys) x (inr h) e = or_true (test y) (list_any test ys) (has_any test ys x h e)

-- a name stands among names
pub named_has : (names : List (List ℕ)) (name : List ℕ) → list_any (bytes_eq name) names ≡ true → Has name names
named_has names name e =
    let r = any_has (bytes_eq name) names e in
    let same : name ≡ r.0 = (bytes_eq-Decides name r.0).0 r.2 in
    subst (λ (n : List ℕ). Has n names) (sym same) r.1

pub has_named : (names : List (List ℕ)) (name : List ℕ) → Has name names → list_any (bytes_eq name) names ≡ true
has_named names name h = has_any (bytes_eq name) names name h ((bytes_eq-Decides name name).1 refl)

-- ---- names that stand once

pub across : (xs ys : List (List ℕ)) → AreDistinct (xs ++ ys) → (x : List ℕ) → Has x xs → Has x ys → ⊥
across [] ys all x h k = absurd h
across (z ∷ xs) ys all x (inl e) k = has_each (λ (other : List ℕ). other ≢ z) (xs ++ ys) x all.0 (has_right x xs ys k) (sym e)
across (z ∷ xs) ys all x (inr h) k = across xs ys all.1 x h k

pub one_named : {X : Type 0} (key : X → List ℕ) (xs : List X) → AreDistinct (map key xs) → (x y : X) → Has x xs → Has y xs → key x ≡ key y → x ≡ y
one_named key [] all x y hx hy e = absurd hx
one_named key (z ∷ zs) all x y (inl a) (inl b) e = sym a ∙ b
one_named key (z ∷ zs) all x y (inl a) (inr k) e =
    absurd (has_each (λ (other : List ℕ). other ≢ key z) (map key zs) (key y) all.0 (has_map key y zs k) (sym e ∙ sym (ap key a)))
one_named key (z ∷ zs) all x y (inr k) (inl b) e =
    absurd (has_each (λ (other : List ℕ). other ≢ key z) (map key zs) (key x) all.0 (has_map key x zs k) (e ∙ sym (ap key b)))
one_named key (z ∷ zs) all x y (inr k) (inr j) e = one_named key zs all.1 x y k j e

-- ---- sums that are positive

pub sum_has : {X : Type 0} (f : X → ℕ) (xs : List X) → 0 < sum_by f xs → (x : X) × Has x xs × (0 < f x)
sum_has f [] lt = absurd (omega (arith, lt))
sum_has f (x ∷ xs) lt = elim (cases_lt 0 (f x)) [
  | inl h ↦ (x, inl refl, h)
  | inr h ↦ let r = sum_has f xs (omega (arith, lt, sum_by-cons f x xs, h)) in (r.0, inr r.1, r.2)
]

pub has_sum : {X : Type 0} (f : X → ℕ) (xs : List X) (x : X) → Has x xs → 0 < f x → 0 < sum_by f xs
has_sum f [] x h lt = absurd h
has_sum f (y ∷ ys) x (inl e) lt = let same : f y ≡ f x = ap f e in omega (arith, sum_by-cons f y ys, same, lt)
has_sum f (y ∷ ys) x (inr h) lt = omega (arith, sum_by-cons f y ys, has_sum f ys x h lt)

one_on : (b : Bool) → 0 < cond b 1 0 → b ≡ true
one_on true lt = refl
one_on false lt = absurd (omega (arith, lt))

pub count_has : {X : Type 0} (test : X → Bool) (xs : List X) → 0 < count_by test xs → (x : X) × Has x xs × (test x ≡ true)
count_has test xs lt = let r = sum_has (λ x. cond (test x) 1 0) xs lt in (r.0, r.1, one_on (test r.0) r.2)

on_one : (b : Bool) → b ≡ true → 0 < cond b 1 0
on_one true e = omega arith
on_one false e = absurd cc

pub has_count : {X : Type 0} (test : X → Bool) (xs : List X) (x : X) → Has x xs → test x ≡ true → 0 < count_by test xs
has_count test xs x h e = has_sum (λ x. cond (test x) 1 0) xs x h (on_one (test x) e)

pub eights : (n : ℕ) → 0 < 8 ^ n
eights zero = omega arith
eights (suc n) = let h = eights n in omega (arith, pow-suc 8 n, h)

times_zero : (a b : ℕ) → b ≤ 0 → 0 < a * b → ⊥
times_zero a zero le lt = omega (arith, lt)
times_zero a (suc b) le lt = omega (arith, le)

pub right_positive : (a b : ℕ) → 0 < a * b → 0 < b
right_positive a b lt = elim (cases_lt 0 b) [ inl h ↦ h | inr h ↦ absurd (times_zero a b h lt) ]

pub times_positive : (a b : ℕ) → 0 < a → 0 < b → 0 < a * b
times_positive a b h k = mul-pos h k
