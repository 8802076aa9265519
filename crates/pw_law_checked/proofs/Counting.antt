-- How often a test passes among the elements of a list: that numbers stand once in it is then a matter of sums.
use Rattle.std.specs.Prelude.{ℕ, zero, suc, ◌≡◌, ◌<◌, ◌≤◌, ◌+◌, Bool, true, false, not, ◌||◌, cond, nat_eq, nat_lt, None, Some, unwrap_or, List, [], ◌∷◌, ◌++◌, length, position, All, Contains, refl}
use Rattle.std.specs.List.{IsDistinct, AllByRecursion, list_any, position_or_len}
use Rattle.std.specs.Str.{bytes_eq}
use Rattle.std.proofs.Common.{arith, ap, sym, subst, ◌∙◌, append-nil, append_assoc, length-append, add-one}
use Rattle.std.proofs.lemmas.Bool.{eqb-true, eqb-false, ltb-true, ltb-false}
use Rattle.std.proofs.lemmas.List.Elements.{All-nil, All-cons}
use Rattle.std.proofs.lemmas.Slice.Eq.{bytes_eq-Decides}
use Rattle.pw_check_rules.specs.Functions.{numbers_below}

abbrev pub one : Bool → ℕ
one true = 1
one false = 0

abbrev pub times : {X : Type 0} → (X → Bool) → List X → ℕ
times p [] = 0
times p (x ∷ xs) = one (p x) + times p xs

-- how often the number stands there
abbrev pub times_of : ℕ → List ℕ → ℕ
times_of l xs = times (nat_eq l) xs

-- whether the number is below the bound, as a number
abbrev pub below : ℕ → ℕ → ℕ
below l n = one (nat_lt l n)

pub times_append : {X : Type 0} (p : X → Bool) (xs ys : List X) → times p (xs ++ ys) ≡ times p xs + times p ys
times_append p [] ys = omega arith
times_append p (x ∷ xs) ys = let h : times p (xs ++ ys) ≡ times p xs + times p ys = times_append p xs ys in omega (arith, h)

pub times_one : {X : Type 0} (p : X → Bool) (x : X) → times p (x ∷ []) ≡ one (p x)
times_one p x = omega arith

pub below_least : (l n : ℕ) → below l n ≤ 1
below_least l n = by (nat_lt l n)
  where
    by : (b : Bool) → one b ≤ 1
    by true = omega arith
    by false = omega arith

-- one number more
pub below_more : (l n : ℕ) → below l (n + 1) ≡ below l n + times_of l (n ∷ [])
below_more l n = by (nat_lt l (n + 1)) refl (nat_lt l n) refl (nat_eq l n) refl
  where
    by : (a : Bool) → nat_lt l (n + 1) ≡ a → (b : Bool) → nat_lt l n ≡ b → (c : Bool) → nat_eq l n ≡ c → one a ≡ one b + (one c + 0)
    by true e true f true g = let h : l < n = ltb-true l n f in let k : l ≡ n = eqb-true l n g in grind (arith, h, k)
    by true e true f false g = omega arith
    by true e false f true g = omega arith
    by true e false f false g =
        let h : l < n + 1 = ltb-true l (n + 1) e in
        let k : n ≤ l = ltb-false l n f in
        absurd (eqb-false l n g (omega (arith, h, k)))
    by false e true f c g = let h : n + 1 ≤ l = ltb-false l (n + 1) e in let k : l < n = ltb-true l n f in grind (arith, h, k)
    by false e false f true g = let h : n + 1 ≤ l = ltb-false l (n + 1) e in let k : l ≡ n = eqb-true l n g in grind (arith, h, k)
    by false e false f false g = omega arith

pub below_zero : (l : ℕ) → below l 0 ≡ 0
below_zero l = by (nat_lt l 0) refl
  where
    by : (b : Bool) → nat_lt l 0 ≡ b → one b ≡ 0
    by true e = let h : l < 0 = ltb-true l 0 e in grind (arith, h)
    by false e = refl

pub below_so : (l n : ℕ) → 1 ≤ below l n → l < n
below_so l n h = by (nat_lt l n) refl h
  where
    by : (b : Bool) → nat_lt l n ≡ b → 1 ≤ one b → l < n
    by true e k = ltb-true l n e
    by false e k = grind (arith, k)

pub times_numbers : (l n : ℕ) → times_of l (numbers_below n) ≡ below l n
times_numbers l zero = sym (below_zero l)
times_numbers l (suc n) =
    let a : times_of l (numbers_below n ++ n ∷ []) ≡ times_of l (numbers_below n) + times_of l (n ∷ []) = times_append (nat_eq l) (numbers_below n) (n ∷ []) in
    let b : times_of l (numbers_below n) ≡ below l n = times_numbers l n in
    let c : below l (n + 1) ≡ below l n + times_of l (n ∷ []) = below_more l n in
    let d : below l (suc n) ≡ below l (n + 1) = ap (below l) (sym (add-one n)) in
    omega (arith, a, b, c, d)

-- ---- from sums to lists

pub contained : (l : ℕ) (xs : List ℕ) → 1 ≤ times_of l xs → Contains xs l
contained l [] h = grind (arith, h)
contained l (x ∷ xs) h = by (nat_eq l x) refl h (contained l xs)
  where
    by : (b : Bool) → nat_eq l x ≡ b → 1 ≤ one b + times_of l xs → (1 ≤ times_of l xs → Contains xs l) → Contains (x ∷ xs) l
    by true e k rest = (0, omega arith, sym (eqb-true l x e))
    by false e k rest =
        let r = rest (omega (arith, k)) in
        let h : r.0 < length xs = r.1 in
        (suc r.0, omega (arith, h), r.2)

absent : (x : ℕ) (xs : List ℕ) → times_of x xs ≡ 0 → AllByRecursion (λ y. nat_eq x y ≡ false) xs
absent x [] h = tt
absent x (y ∷ xs) h = by (nat_eq x y) refl h (absent x xs)
  where
    by : (b : Bool) → nat_eq x y ≡ b → one b + times_of x xs ≡ 0 → (times_of x xs ≡ 0 → AllByRecursion (λ z. nat_eq x z ≡ false) xs)
        → (nat_eq x y ≡ false) × AllByRecursion (λ z. nat_eq x z ≡ false) xs
    by true e k rest = grind (arith, k)
    by false e k rest = (e, rest (omega (arith, k)))

pub equal_itself : (x : ℕ) → nat_eq x x ≡ true
equal_itself x = by (nat_eq x x) refl
  where
    by : (b : Bool) → nat_eq x x ≡ b → b ≡ true
    by true e = refl
    by false e = absurd (eqb-false x x e refl)

pub times_head : (x : ℕ) (xs : List ℕ) → times_of x (x ∷ xs) ≡ 1 + times_of x xs
times_head x xs = ap (λ b. one b + times_of x xs) (equal_itself x)

pub distinct_once : (xs : List ℕ) → ((l : ℕ) → times_of l xs ≤ 1) → IsDistinct nat_eq xs
unfolding IsDistinct
distinct_once [] h = tt
distinct_once (x ∷ xs) h = (
  absent x xs (let a : times_of x (x ∷ xs) ≤ 1 = h x in let b : times_of x (x ∷ xs) ≡ 1 + times_of x xs = times_head x xs in omega (arith, a, b)),
  distinct_once xs (λ l. let a : one (nat_eq l x) + times_of l xs ≤ 1 = h l in omega (arith, a)),
)

-- what holds of each number that stands there
pub all_times : (P : ℕ → Type 0) (xs : List ℕ) → ((l : ℕ) → 1 ≤ times_of l xs → P l) → All P xs
all_times P [] h = All-nil P
all_times P (x ∷ xs) h =
    All-cons P x xs (h x (let b : times_of x (x ∷ xs) ≡ 1 + times_of x xs = times_head x xs in omega (arith, b)))
    (all_times P xs (λ l k. h l (omega (arith, k))))

-- ---- names that stand once

pub named_itself : (name : List ℕ) → bytes_eq name name ≡ true
named_itself name = (bytes_eq-Decides name name).1 refl

pub none_any : {X : Type 0} (p : X → Bool) (xs : List X) → list_any p xs ≡ false → times p xs ≡ 0
none_any p [] h = refl
none_any p (x ∷ xs) h = by (p x) h (none_any p xs)
  where
    by : (b : Bool) → (b || list_any p xs) ≡ false → (list_any p xs ≡ false → times p xs ≡ 0) → one b + times p xs ≡ 0
    by true k rest = grind (arith, k)
    by false k rest = let r : times p xs ≡ 0 = rest k in omega (arith, r)

-- the first place at which the test passes is behind those where it does not
place_behind : {X : Type 0} (p : X → Bool) (xs : List X) (x : X) (rest : List X) → times p xs ≡ 0 → p x ≡ true → position_or_len p (xs ++ x ∷ rest) ≡ length xs
place_behind p [] x rest none h = ap (λ b. cond (not b) (1 + position_or_len p rest) 0) h
place_behind {X} p (y ∷ xs) x rest none h = by (p y) refl none (λ k. place_behind p xs x rest k h)
  where
    by : (b : Bool) → p y ≡ b → one b + times p xs ≡ 0 → (times p xs ≡ 0 → position_or_len p (xs ++ x ∷ rest) ≡ length xs)
        → cond (not (p y)) (1 + position_or_len p (xs ++ x ∷ rest)) 0 ≡ suc (length xs)
    by true e k again = grind (arith, k)
    by false e k again =
        let r : position_or_len p (xs ++ x ∷ rest) ≡ length xs = again (let q : 0 + times p xs ≡ 0 = k in omega (arith, q)) in
        ap (λ b. cond (not b) (1 + position_or_len p (xs ++ x ∷ rest)) 0) e ∙ omega (arith, r)

place_is : {X : Type 0} (p : X → Bool) (xs : List X) (x : X) (rest : List X) → times p xs ≡ 0 → p x ≡ true → unwrap_or (position p (xs ++ x ∷ rest)) 0 ≡ length xs
place_is {X} p xs x rest none h =
    ap (λ n. unwrap_or (cond (nat_lt n (length (xs ++ x ∷ rest))) (Some n) None) 0) (place_behind p xs x rest none h) ∙ by (nat_lt (length xs) (length (xs ++ x ∷ rest))) refl
  where
    long : (ys : List X) → length ys < length (ys ++ x ∷ rest)
    long [] = omega arith
    long (y ∷ ys) = let r : length ys < length (ys ++ x ∷ rest) = long ys in omega (arith, r)

    by : (b : Bool) → nat_lt (length xs) (length (xs ++ x ∷ rest)) ≡ b → unwrap_or (cond b (Some (length xs)) None) 0 ≡ length xs
    by true e = refl
    by false e = let k : length (xs ++ x ∷ rest) ≤ length xs = ltb-false (length xs) (length (xs ++ x ∷ rest)) e in let r : length xs < length (xs ++ x ∷ rest) = long xs in grind (arith, k, r)

-- the number of a name among the names
abbrev pub number_among : List (List ℕ) → List ℕ → ℕ
number_among names name = unwrap_or (position (bytes_eq name) names) 0

-- no name stands twice
abbrev pub AreApart : List (List ℕ) → Type 0
AreApart names = (name : List ℕ) → times (bytes_eq name) names ≤ 1

first_of : (name : List ℕ) (done rest : List (List ℕ)) → AreApart (done ++ name ∷ rest) → times (bytes_eq name) done ≡ 0
first_of name done rest apart =
    let a : times (bytes_eq name) (done ++ name ∷ rest) ≤ 1 = apart name in
    let b : times (bytes_eq name) (done ++ name ∷ rest) ≡ times (bytes_eq name) done + (one (bytes_eq name name) + times (bytes_eq name) rest) = times_append (bytes_eq name) done (name ∷ rest) in
    let c : one (bytes_eq name name) ≡ 1 = ap one (named_itself name) in
    omega (arith, a, b, c)

numbers_from : (names done rest : List (List ℕ)) → names ≡ done ++ rest → AreApart names → (l : ℕ)
    → times (λ name. nat_eq l (number_among names name)) rest + below l (length done) ≡ below l (length names)
numbers_from names done [] same apart l =
    let k : below l (length done) ≡ below l (length names) = ap (λ xs. below l (length xs)) (sym (append-nil done) ∙ sym same) in omega (arith, k)
numbers_from names done (name ∷ rest) same apart l =
    let place : number_among names name ≡ length done =
    ap (λ xs. number_among xs name) same ∙ place_is (bytes_eq name) done name rest (first_of name done rest (subst AreApart same apart)) (named_itself name) in
    let a : times (λ x. nat_eq l (number_among names x)) rest + below l (length (done ++ name ∷ [])) ≡ below l (length names) =
    numbers_from names (done ++ name ∷ []) rest (same ∙ sym (append_assoc done (name ∷ []) rest)) apart l in
    let b : below l (length (done ++ name ∷ [])) ≡ below l (length done + 1) = ap (below l) (length-append done (name ∷ [])) in
    let c : below l (length done + 1) ≡ below l (length done) + (one (nat_eq l (length done)) + 0) = below_more l (length done) in
    let d : one (nat_eq l (number_among names name)) ≡ one (nat_eq l (length done)) = ap (λ n. one (nat_eq l n)) place in
    omega (arith, a, b, c, d)

-- names that are apart have each number below their count once
pub numbers_once : (names : List (List ℕ)) → AreApart names → (l : ℕ) → times (λ name. nat_eq l (number_among names name)) names ≡ below l (length names)
numbers_once names apart l =
    let a : times (λ name. nat_eq l (number_among names name)) names + below l 0 ≡ below l (length names) = numbers_from names [] names refl apart l in
    let b : below l 0 ≡ 0 = below_zero l in
    omega (arith, a, b)

-- a name more, which does not stand there yet
pub apart_more : (names : List (List ℕ)) (name : List ℕ) → AreApart names → list_any (bytes_eq name) names ≡ false → AreApart (names ++ name ∷ [])
apart_more names name apart fresh other = by (bytes_eq other name) refl
  where
    sum : times (bytes_eq other) (names ++ name ∷ []) ≡ times (bytes_eq other) names + times (bytes_eq other) (name ∷ [])
    sum = times_append (bytes_eq other) names (name ∷ [])

    by : (b : Bool) → bytes_eq other name ≡ b → times (bytes_eq other) (names ++ name ∷ []) ≤ 1
    by true e =
        let k : times (bytes_eq other) names ≡ 0 =
        subst (λ n. times (bytes_eq n) names ≡ 0) (sym ((bytes_eq-Decides other name).0 e)) (none_any (bytes_eq name) names fresh) in
        let d : one (bytes_eq other name) ≡ 1 = ap one e in
        let s = sum in
        omega (arith, k, d, s)
    by false e =
        let k : times (bytes_eq other) names ≤ 1 = apart other in
        let d : one (bytes_eq other name) ≡ 0 = ap one e in
        let s = sum in
        omega (arith, k, d, s)
