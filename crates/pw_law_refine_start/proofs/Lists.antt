-- Lists: what a search finds, where it finds it, and how often a name stands in a list.
use Rattle.std.proofs.Common.{◌≡◌, ◌≢◌, ℕ, zero, suc, ◌+◌, ◌<◌, not, ◌||◌, Bool, true, false, true≢false, nat_lt, lt-ltb, ltb-true, cond, Some, None, List, [], ◌∷◌, ◌++◌, length, map, slice_get, refl, sym, ap, subst, ◌∙◌, arith, inl, inr}
use Rattle.std.specs.List.{AllByRecursion, find, position, position_or_len, prefix_len, list_any, sum_by}
use Rattle.std.specs.Str.{bytes_eq}
use Rattle.std.proofs.lemmas.Option.{same_Some, cond_some, slice_get_within}
use Rattle.std.proofs.lemmas.List.{length-map}
use Rattle.std.proofs.lemmas.List.Folds.{find_at}
use Rattle.std.proofs.lemmas.List.Sums.{sum_by-cons}
use Rattle.std.proofs.lemmas.Slice.Eq.{bytes_eq-Decides}
use Rattle.pw_flow.specs.ValidFlow.{AreDistinct}
use Rattle.pw_files.proofs.Standing.{Has, has_each, has_map}

-- ---- truth values

pub clash : (b : Bool) → b ≡ true → b ≡ false → ⊥
clash b e d = true≢false (sym e ∙ d)

-- ---- searches

found_by : {X : Type 0} (test : X → Bool) (b : Bool) (x y : X) (ys : List X) → test y ≡ b → (find test ys ≡ Some x → Has x ys × (test x ≡ true)) → cond b (Some y) (find test ys) ≡ Some x → Has x (y ∷ ys) × (test x ≡ true)
found_by test true x y ys e f g = let same : y ≡ x = same_Some y x g in (inl same, ap test (sym same) ∙ e)
found_by test false x y ys e f g = let r = f g in (inr r.0, r.1)

-- what is found stands in the list, and passes
pub found : {X : Type 0} (test : X → Bool) (xs : List X) (x : X) → find test xs ≡ Some x → Has x xs × (test x ≡ true)
found test [] x e = absurd cc
found test (y ∷ ys) x e = found_by test (test y) x y ys refl (found test ys x) e

finds_by : {X : Type 0} (test : X → Bool) (b : Bool) (x y : X) (ys : List X) → test y ≡ b → Has x (y ∷ ys) → test x ≡ true → (Has x ys → (z : X) × (find test ys ≡ Some z)) → (z : X) × (cond b (Some y) (find test ys) ≡ Some z)
finds_by test true x y ys e h t f = (y, refl)
finds_by test false x y ys e (inl same) t f = absurd (clash (test y) (ap test same ∙ t) e)
finds_by test false x y ys e (inr h) t f = f h

-- where one passes, one is found
pub finds : {X : Type 0} (test : X → Bool) (xs : List X) (x : X) → Has x xs → test x ≡ true → (z : X) × (find test xs ≡ Some z)
finds test [] x h e = absurd h
finds test (y ∷ ys) x h e = finds_by test (test y) x y ys refl h e (λ k. finds test ys x k e)

-- ---- places

-- what is at a place
pub at_place : {X : Type 0} (xs : List X) (k : ℕ) → k < length xs → (x : X) × (slice_get xs k ≡ Some x)
at_place [] k lt = absurd (omega (arith, lt))
at_place (x ∷ xs) zero lt = (x, refl)
at_place (x ∷ xs) (suc k) lt = at_place xs k (omega (arith, lt))

pub has_place : {X : Type 0} (xs : List X) (k : ℕ) (x : X) → slice_get xs k ≡ Some x → Has x xs
has_place [] k x e = absurd cc
has_place (y ∷ ys) zero x e = inl (same_Some y x e)
has_place (y ∷ ys) (suc k) x e = inr (has_place ys k x e)

-- the first place at which one passes, and what is there
pub first_at : {X : Type 0} (test : X → Bool) (xs : List X) (k : ℕ) → position test xs ≡ Some k → (x : X) × (slice_get xs k ≡ Some x) × (test x ≡ true)
first_at test xs k e =
    let r = cond_some (nat_lt (position_or_len test xs) (length xs)) (position_or_len test xs) k e in
    let lt : position_or_len test xs < length xs = ltb-true (position_or_len test xs) (length xs) r.0 in
    let x = at_place xs (position_or_len test xs) lt in
    (x.0, subst (λ (n : ℕ). slice_get xs n ≡ Some x.0) r.1 x.1, (found test xs x.0 (find_at test xs ∙ x.1)).1)

-- where none is found, none passes
pub none_at : {X : Type 0} (test : X → Bool) (xs : List X) (x : X) → position test xs ≡ None → Has x xs → test x ≡ true → ⊥
none_at test xs x e h t =
    let z = finds test xs x h t in
    let lt : position_or_len test xs < length xs = slice_get_within xs (position_or_len test xs) z.0 (sym (find_at test xs) ∙ z.1) in
    let b : nat_lt (position_or_len test xs) (length xs) ≡ true = lt-ltb (position_or_len test xs) (length xs) lt in
    let some : position test xs ≡ Some (position_or_len test xs) = ap (λ (b : Bool). cond b (Some (position_or_len test xs)) None) b in
    cc

prefix_map : {X Y : Type 0} (test : Y → Bool) (h : X → Y) (xs : List X) → prefix_len test (map h xs) ≡ prefix_len (λ x. test (h x)) xs
prefix_map test h [] = refl
prefix_map test h (x ∷ xs) = ap (λ (n : ℕ). cond (test (h x)) (1 + n) 0) (prefix_map test h xs)

pub position_map : {X Y : Type 0} (test : Y → Bool) (h : X → Y) (xs : List X) → position test (map h xs) ≡ position (λ x. test (h x)) xs
position_map test h xs =
    ap (λ (n : ℕ). cond (nat_lt n (length (map h xs))) (Some n) None) (prefix_map (λ y. not (test y)) h xs)
    ∙ ap (λ (n : ℕ). cond (nat_lt (position_or_len (λ x. test (h x)) xs) n) (Some (position_or_len (λ x. test (h x)) xs)) None) (length-map xs h)

-- ---- names that stand once

pub has_any : {X : Type 0} (test : X → Bool) (xs : List X) (x : X) → Has x xs → test x ≡ true → list_any test xs ≡ true
has_any test [] x h e = absurd h
has_any test (y ∷ ys) x (inl same) e =
    let on : test y ≡ true = ap test same ∙ e in
    subst (λ (b : Bool). (b || list_any test ys) ≡ true) (sym on) refl
has_any test (y ∷ ys) x (inr h) e = or_true (test y) (list_any test ys) (has_any test ys x h e)
  where
    or_true : (a b : Bool) → b ≡ true → (a || b) ≡ true
    or_true true b e = refl
    or_true false b e = e

pub left_distinct : (xs ys : List (List ℕ)) → AreDistinct (xs ++ ys) → AreDistinct xs
left_distinct [] ys all = tt
left_distinct (x ∷ xs) ys all = (left_each xs ys all.0, left_distinct xs ys all.1)
  where
    left_each : (zs ws : List (List ℕ)) → AllByRecursion (λ other. other ≢ x) (zs ++ ws) → AllByRecursion (λ other. other ≢ x) zs
    left_each [] ws all = tt
    left_each (z ∷ zs) ws all = (all.0, left_each zs ws all.1)

pub one_named : {X : Type 0} (key : X → List ℕ) (xs : List X) → AreDistinct (map key xs) → (x y : X) → Has x xs → Has y xs → key x ≡ key y → x ≡ y
one_named key [] all x y hx hy e = absurd hx
one_named key (z ∷ zs) all x y (inl a) (inl b) e = sym a ∙ b
one_named key (z ∷ zs) all x y (inl a) (inr k) e =
    absurd (has_each (λ (other : List ℕ). other ≢ key z) (map key zs) (key y) all.0 (has_map key y zs k) (sym e ∙ sym (ap key a)))
one_named key (z ∷ zs) all x y (inr k) (inl b) e =
    absurd (has_each (λ (other : List ℕ). other ≢ key z) (map key zs) (key x) all.0 (has_map key x zs k) (e ∙ sym (ap key b)))
one_named key (z ∷ zs) all x y (inr k) (inr j) e = one_named key zs all.1 x y k j e

-- ---- counts

-- 1 for a name that passes
abbrev pub bit : (List ℕ → Bool) → List ℕ → ℕ
bit test name = cond (test name) 1 0

pub differs : (x y : List ℕ) (b : Bool) → bytes_eq x y ≡ b → x ≢ y → b ≡ false
differs x y true e d = absurd (d ((bytes_eq-Decides x y).0 e))
differs x y false e d = refl

-- a name that does not stand in a list is counted no times
pub none_counted : (name : List ℕ) (names : List (List ℕ)) → ((other : List ℕ) → Has other names → other ≢ name) → sum_by (bit (λ other. bytes_eq other name)) names ≡ 0
none_counted name [] none = refl
none_counted name (x ∷ xs) none =
    let rest = none_counted name xs (λ other h. none other (inr h)) in
    let here : bit (λ other. bytes_eq other name) x ≡ 0 = ap (λ (b : Bool). cond b 1 0) (differs x name (bytes_eq x name) refl (none x (inl refl))) in
    sum_by-cons (bit (λ other. bytes_eq other name)) x xs ∙ omega (arith, here, rest)

-- one that stands in a list of names that differ is counted once
pub once_counted : (name : List ℕ) (names : List (List ℕ)) → AreDistinct names → Has name names → sum_by (bit (λ other. bytes_eq other name)) names ≡ 1
once_counted name [] all h = absurd h
once_counted name (x ∷ xs) all (inl e) =
    let rest = none_counted name xs (λ other k same. has_each (λ (other : List ℕ). other ≢ x) xs other all.0 k (same ∙ sym e)) in
    let here : bit (λ other. bytes_eq other name) x ≡ 1 = ap (λ (b : Bool). cond b 1 0) ((bytes_eq-Decides x name).1 e) in
    sum_by-cons (bit (λ other. bytes_eq other name)) x xs ∙ omega (arith, here, rest)
once_counted name (x ∷ xs) all (inr h) =
    let rest = once_counted name xs all.1 h in
    let apart : x ≢ name = λ e. has_each (λ (other : List ℕ). other ≢ x) xs name all.0 h (sym e) in
    let here : bit (λ other. bytes_eq other name) x ≡ 0 = ap (λ (b : Bool). cond b 1 0) (differs x name (bytes_eq x name) refl apart) in
    sum_by-cons (bit (λ other. bytes_eq other name)) x xs ∙ omega (arith, here, rest)
