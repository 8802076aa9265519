-- Positions and the first that passes a test.
use Rattle.std.proofs.Common.{◌≡◌, ℕ, suc, ◌+◌, ◌-◌, Bool, true, false, cond, List, [], ◌∷◌, ◌++◌, length, slice_get, Some, None, refl, ap, arith, ◌∙◌, length-append}
use Rattle.std.proofs.Math.Seq.{get_or-append_seam}
use Rattle.std.proofs.lemmas.Option.{slice_get-get_or}
use Rattle.std.specs.List.{position_from}
use Rattle.pw_front_end.specs.First.{IsFirst, NonePasses}

-- ---- none

pub none-passes : {A : Type 0} (test : A → Bool) (k : ℕ) (xs : List A) → position_from test k xs ≡ None → NonePasses test xs
none-passes test k [] e = tt
none-passes test k (x ∷ xs) e = go (test x) refl e (none-passes test (k + 1) xs)
  where
    go : (b : Bool) → test x ≡ b → cond b (Some k) (position_from test (k + 1) xs) ≡ None → (position_from test (k + 1) xs ≡ None → NonePasses test xs)
        → (test x ≡ false) × NonePasses test xs
    go true f e more = cc
    go false f e more = (f, more e)

pub none-found : {A : Type 0} (test : A → Bool) (k : ℕ) (xs : List A) → NonePasses test xs → position_from test k xs ≡ None
none-found test k [] h = refl
none-found test k (x ∷ xs) h = rw h.0 (none-found test (k + 1) xs h.1)

-- ---- the first

-- the same, counted from k
record FirstFrom {A : Type 0} (test : A → Bool) (xs : List A) (k n : ℕ) : Type 0 where
  item : A
  front : List A
  rest : List A
  cut : xs ≡ front ++ item ∷ rest
  place : n ≡ length front + k
  before : NonePasses test front
  passes : test item ≡ true

first-from : {A : Type 0} (test : A → Bool) (k n : ℕ) (xs : List A) → position_from test k xs ≡ Some n → FirstFrom test xs k n
first-from test k n [] e = cc
first-from test k n (x ∷ xs) e = go (test x) refl e (first-from test (k + 1) n xs)
  where
    same : Some k ≡ Some n → n ≡ k
    same e = cc

    go : (b : Bool) → test x ≡ b → cond b (Some k) (position_from test (k + 1) xs) ≡ Some n → (position_from test (k + 1) xs ≡ Some n → FirstFrom test xs (k + 1) n)
        → FirstFrom test (x ∷ xs) k n
    go true f e more = let l : n ≡ k = same e in record { item = x; front = []; rest = xs; cut = refl; place = omega arith; before = tt; passes = f }
    go false f e more =
        let r = more e in
        let l = r.place in
        record { item = r.item; front = x ∷ r.front; rest = r.rest; cut = ap (λ ys. x ∷ ys) r.cut; place = omega arith; before = (f, r.before); passes = r.passes }

pub first-passes : {A : Type 0} (test : A → Bool) (n : ℕ) (xs : List A) → position_from test 1 xs ≡ Some n → (x : A) × IsFirst test xs n x
first-passes test n xs e =
    let r = first-from test 1 n xs e in
    (r.item, record { front = r.front; rest = r.rest; cut = r.cut; place = r.place; before = r.before; passes = r.passes })

found-behind : {A : Type 0} (test : A → Bool) (k : ℕ) (front rest : List A) (x : A) → NonePasses test front → test x ≡ true
    → position_from test k (front ++ x ∷ rest) ≡ Some (length front + k)
found-behind test k [] rest x none e = let l : k ≡ 0 + k = omega arith in rw e (ap Some l)
found-behind test k (y ∷ front) rest x none e =
    let l : length front + (k + 1) ≡ suc (length front) + k = omega arith in rw none.0 (found-behind test (k + 1) front rest x none.1 e ∙ ap Some l)

pub first-found : {A : Type 0} (test : A → Bool) (n : ℕ) (xs : List A) (x : A) → IsFirst test xs n x → position_from test 1 xs ≡ Some n
first-found test n xs x h = rw (h.cut, h.place) (found-behind test 1 h.front h.rest x h.before h.passes)

-- the first has its number
pub first-there : {A : Type 0} (test : A → Bool) (n : ℕ) (xs : List A) (x : A) → IsFirst test xs n x → slice_get xs (n - 1) ≡ Some x
first-there test n xs x h =
    let place = h.place in
    let l : n - 1 ≡ length h.front = omega arith in
    rw (l, h.cut) (slice_get-get_or (h.front ++ x ∷ h.rest) (length h.front) x (omega (arith, length-append h.front (x ∷ h.rest))) ∙ ap Some (get_or-append_seam h.front x h.rest x))
