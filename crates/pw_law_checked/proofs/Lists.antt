-- Places of lists: of one that grew, of one that was filtered, of one in which one place was put anew.
use Rattle.std.specs.Prelude.{ℕ, zero, suc, ◌≡◌, ◌<◌, ◌⊎◌, Bool, true, false, Option, None, Some, List, [], ◌∷◌, ◌++◌, length, map, filter, slice_get, if◌then◌else◌, cond, not, nat_lt, ◌+◌, ◌≤◌, position, option_and_then, option_map, refl}
use Rattle.std.specs.List.{position_or_len}
use Rattle.std.proofs.lemmas.Bool.{ltb-false, ltb-true}
use Rattle.std.specs.Option.{option_or}
use Rattle.std.specs.Str.{bytes_eq}
use Rattle.std.proofs.Common.{arith, ap, subst, ◌∙◌, inl, inr, sym, one-add}
use Rattle.pw_check_rules.specs.States.{put_at}
use Rattle.pw_scope.specs.Visible.{visible}

pub some_same : {X : Type 0} {x y : X} → Some x ≡ Some y → x ≡ y
some_same {X} {x} {y} e = ap (λ o. unwrap o) e
  where
    unwrap : Option X → X
    unwrap None = x
    unwrap (Some z) = z

pub never_some : {X : Type 0} {A : Type 0} {x : X} → None ≡ Some x → A
never_some {X} {A} {x} e = absurd (subst (λ o. P o) e tt)
  where
    P : Option X → Type 0
    P None = Unit {0}
    P (Some z) = ⊥

-- what an option gives
pub and_then_some : {A B : Type 0} (f : A → Option B) (o : Option A) (y : B) → option_and_then f o ≡ Some y → (x : A) × (o ≡ Some x) × (f x ≡ Some y)
and_then_some f None y e = never_some e
and_then_some f (Some x) y e = (x, refl, e)

pub map_some : {A B : Type 0} (f : A → B) (o : Option A) (y : B) → option_map f o ≡ Some y → (x : A) × (o ≡ Some x) × (f x ≡ y)
map_some f None y e = never_some e
map_some f (Some x) y e = (x, refl, some_same e)

-- what stands in the first list stands at the same place in the second
abbrev pub Longer : {X : Type 0} → List X → List X → Type 0
Longer {X} xs ys = (i : ℕ) (x : X) → slice_get xs i ≡ Some x → slice_get ys i ≡ Some x

pub get_append : {X : Type 0} (xs ys : List X) (i : ℕ) (x : X) → slice_get xs i ≡ Some x → slice_get (xs ++ ys) i ≡ Some x
get_append [] ys i x e = never_some e
get_append (z ∷ xs) ys zero x e = e
get_append (z ∷ xs) ys (suc i) x e = get_append xs ys i x e

pub get_either : {X : Type 0} (xs ys : List X) (i : ℕ) (x : X) → slice_get (xs ++ ys) i ≡ Some x
    → (slice_get xs i ≡ Some x) ⊎ ((j : ℕ) × (slice_get ys j ≡ Some x))
get_either [] ys i x e = inr (i, e)
get_either (z ∷ xs) ys zero x e = inl e
get_either (z ∷ xs) ys (suc i) x e = get_either xs ys i x e

pub get_one : {X : Type 0} (y : X) (i : ℕ) (x : X) → slice_get (y ∷ []) i ≡ Some x → y ≡ x
get_one y zero x e = some_same e
get_one y (suc i) x e = never_some e

-- the element that was put behind the others
pub get_last : {X : Type 0} (xs : List X) (y : X) → slice_get (xs ++ y ∷ []) (length xs) ≡ Some y
get_last [] y = refl
get_last (z ∷ xs) y = get_last xs y

pub get_within : {X : Type 0} (xs : List X) (i : ℕ) (x : X) → slice_get xs i ≡ Some x → i < length xs
get_within [] i x e = never_some e
get_within (z ∷ xs) zero x e = omega arith
get_within (z ∷ xs) (suc i) x e = let h : i < length xs = get_within xs i x e in omega (arith, h)

pub get_filter : {X : Type 0} (p : X → Bool) (xs : List X) (i : ℕ) (x : X) → slice_get (filter p xs) i ≡ Some x → (j : ℕ) × (slice_get xs j ≡ Some x) × (p x ≡ true)
get_filter p [] i x e = never_some e
get_filter {X} p (z ∷ xs) i x e = by_test (p z) refl i e (get_filter p xs)
  where
    by_test : (b : Bool) → p z ≡ b → (k : ℕ) → slice_get (cond b (z ∷ filter p xs) (filter p xs)) k ≡ Some x
        → ((i : ℕ) (x : X) → slice_get (filter p xs) i ≡ Some x → (j : ℕ) × (slice_get xs j ≡ Some x) × (p x ≡ true))
        → (j : ℕ) × (slice_get (z ∷ xs) j ≡ Some x) × (p x ≡ true)
    by_test true h zero f rest = (0, f, subst (λ y. p y ≡ true) (some_same f) h)
    by_test true h (suc k) f rest = let r = rest k x f in (suc r.0, r.1, r.2)
    by_test false h k f rest = let r = rest k x f in (suc r.0, r.1, r.2)

pub get_map : {X Y : Type 0} (f : X → Y) (xs : List X) (i : ℕ) (y : Y) → slice_get (map f xs) i ≡ Some y → (x : X) × (slice_get xs i ≡ Some x) × (f x ≡ y)
get_map f [] i y e = never_some e
get_map f (x ∷ xs) zero y e = (x, refl, some_same e)
get_map f (x ∷ xs) (suc i) y e = get_map f xs i y e

pub filter_all : {X : Type 0} (p : X → Bool) (xs : List X) → ((i : ℕ) (x : X) → slice_get xs i ≡ Some x → p x ≡ true) → filter p xs ≡ xs
filter_all p [] h = refl
filter_all p (z ∷ xs) h =
    ap (λ b. cond b (z ∷ filter p xs) (filter p xs)) (h 0 z refl) ∙ ap (λ r. z ∷ r) (filter_all p xs (λ i x e. h (suc i) x e))

pub filter_none : {X : Type 0} (p : X → Bool) (xs : List X) → ((i : ℕ) (x : X) → slice_get xs i ≡ Some x → p x ≡ false) → filter p xs ≡ []
filter_none p [] h = refl
filter_none p (z ∷ xs) h =
    ap (λ b. cond b (z ∷ filter p xs) (filter p xs)) (h 0 z refl) ∙ filter_none p xs (λ i x e. h (suc i) x e)

pub filter_front : {X : Type 0} (p : X → Bool) (xs ys : List X) → ((i : ℕ) (x : X) → slice_get xs i ≡ Some x → p x ≡ true)
    → ((i : ℕ) (x : X) → slice_get ys i ≡ Some x → p x ≡ false) → filter p (xs ++ ys) ≡ xs
filter_front p [] ys h k = filter_none p ys k
filter_front p (z ∷ xs) ys h k =
    ap (λ b. cond b (z ∷ filter p (xs ++ ys)) (filter p (xs ++ ys))) (h 0 z refl)
    ∙ ap (λ r. z ∷ r) (filter_front p xs ys (λ i x e. h (suc i) x e) k)

-- ---- a place put anew

pub length_put : {X : Type 0} (n : ℕ) (x : X) (xs : List X) → length (put_at n x xs) ≡ length xs
length_put n x [] = refl
length_put zero x (y ∷ xs) = refl
length_put (suc n) x (y ∷ xs) = ap suc (length_put n x xs)

pub put_same : {X : Type 0} (n : ℕ) (x : X) (xs : List X) → n < length xs → slice_get (put_at n x xs) n ≡ Some x
put_same n x [] h = grind arith
put_same zero x (y ∷ xs) h = refl
put_same (suc n) x (y ∷ xs) h = put_same n x xs (omega (arith, h))

-- what stands at a place afterwards: what was put there, or what stood there before at another place
pub put_either : {X : Type 0} (n : ℕ) (x : X) (xs : List X) (i : ℕ)
    → ((i ≡ n) × (slice_get (put_at n x xs) i ≡ Some x)) ⊎ (slice_get (put_at n x xs) i ≡ slice_get xs i)
put_either n x [] i = inr refl
put_either zero x (y ∷ xs) zero = inl (refl, refl)
put_either zero x (y ∷ xs) (suc i) = inr refl
put_either (suc n) x (y ∷ xs) zero = inr refl
put_either (suc n) x (y ∷ xs) (suc i) = lift (put_either n x xs i)
  where
    lift : ((i ≡ n) × (slice_get (put_at n x xs) i ≡ Some x)) ⊎ (slice_get (put_at n x xs) i ≡ slice_get xs i)
        → ((suc i ≡ suc n) × (slice_get (put_at n x xs) i ≡ Some x)) ⊎ (slice_get (put_at n x xs) i ≡ slice_get xs i)
    lift (inl h) = inl (ap suc h.0, h.1)
    lift (inr h) = inr h

-- ---- what a name stands for is in the list

pub visible_at : {X : Type 0} (xs : List (List ℕ × X)) (name : List ℕ) (x : X) → visible xs name ≡ Some x
    → (i : ℕ) × ((n : List ℕ) × (slice_get xs i ≡ Some (n, x)))
visible_at [] name x e = never_some e
visible_at {X} (entry ∷ later) name x e = by_later (visible later name) refl (bytes_eq name entry.0) e (visible_at later name x)
  where
    by_later : (o : Option X) → visible later name ≡ o → (b : Bool)
        → option_or o (if b then Some entry.1 else None) ≡ Some x
        → (visible later name ≡ Some x → (i : ℕ) × ((n : List ℕ) × (slice_get later i ≡ Some (n, x))))
        → (i : ℕ) × ((n : List ℕ) × (slice_get (entry ∷ later) i ≡ Some (n, x)))
    by_later None h true f rest = (0, (entry.0, ap (λ y. Some (entry.0, y)) (some_same f)))
    by_later None h false f rest = never_some f
    by_later (Some y) h b f rest = let r = rest (h ∙ f) in (suc r.0, (r.1.0, r.1.1))

pub visible_more : {X : Type 0} (xs : List (List ℕ × X)) (name : List ℕ) (x : X) (other : List ℕ)
    → visible (xs ++ (name, x) ∷ []) other ≡ (if bytes_eq other name then Some x else visible xs other)
visible_more [] name x other = refl
visible_more {X} (entry ∷ later) name x other = by (bytes_eq other name) (visible_more later name x other)
  where
    by : (b : Bool) → visible (later ++ (name, x) ∷ []) other ≡ (if b then Some x else visible later other)
        → option_or (visible (later ++ (name, x) ∷ []) other) (if bytes_eq other entry.0 then Some entry.1 else None) ≡ (if b then Some x else visible (entry ∷ later) other)
    by true e = ap (λ o. option_or o (if bytes_eq other entry.0 then Some entry.1 else None)) e
    by false e = ap (λ o. option_or o (if bytes_eq other entry.0 then Some entry.1 else None)) e

pub put_cases : {X : Type 0} (n : ℕ) (x : X) (xs : List X) (i : ℕ) (y : X) → slice_get (put_at n x xs) i ≡ Some y
    → ((i ≡ n) × (x ≡ y) × ((z : X) × (slice_get xs n ≡ Some z))) ⊎ (slice_get xs i ≡ Some y)
put_cases n x [] i y e = inr e
put_cases zero x (z ∷ xs) zero y e = inl (refl, some_same e, (z, refl))
put_cases zero x (z ∷ xs) (suc i) y e = inr e
put_cases (suc n) x (z ∷ xs) zero y e = inr e
put_cases {X} (suc n) x (z ∷ xs) (suc i) y e = lift (put_cases n x xs i y e)
  where
    lift : ((i ≡ n) × (x ≡ y) × ((z : X) × (slice_get xs n ≡ Some z))) ⊎ (slice_get xs i ≡ Some y)
        → ((suc i ≡ suc n) × (x ≡ y) × ((z : X) × (slice_get xs n ≡ Some z))) ⊎ (slice_get xs i ≡ Some y)
    lift (inl h) = inl (ap suc h.0, h.1, h.2)
    lift (inr h) = inr h

-- one of the elements before, or the one that was put behind them
pub get_more : {X : Type 0} (xs : List X) (x : X) (i : ℕ) (y : X) → slice_get (xs ++ x ∷ []) i ≡ Some y → (slice_get xs i ≡ Some y) ⊎ ((i ≡ length xs) × (x ≡ y))
get_more [] x zero y e = inr (refl, some_same e)
get_more [] x (suc i) y e = never_some e
get_more (z ∷ xs) x zero y e = inl e
get_more {X} (z ∷ xs) x (suc i) y e = lift (get_more xs x i y e)
  where
    lift : (slice_get xs i ≡ Some y) ⊎ ((i ≡ length xs) × (x ≡ y)) → (slice_get xs i ≡ Some y) ⊎ ((suc i ≡ suc (length xs)) × (x ≡ y))
    lift (inl h) = inl h
    lift (inr h) = inr (ap suc h.0, h.1)

-- ---- the first element that passes a test

first_below : {X : Type 0} (p : X → Bool) (xs : List X) (i : ℕ) (x : X) → slice_get xs i ≡ Some x → p x ≡ true → position_or_len p xs < length xs
first_below p [] i x e h = never_some e
first_below {X} p (z ∷ xs) i x e h = by (p z) refl i e (first_below p xs)
  where
    by : (b : Bool) → p z ≡ b → (k : ℕ) → slice_get (z ∷ xs) k ≡ Some x → ((k : ℕ) (y : X) → slice_get xs k ≡ Some y → p y ≡ true → position_or_len p xs < length xs)
        → cond (not b) (1 + position_or_len p xs) 0 < length (z ∷ xs)
    by true f k g rest = omega arith
    by false f zero g rest = grind (arith, sym f ∙ (ap p (some_same g) ∙ h))
    by false f (suc k) g rest = let r : position_or_len p xs < length xs = rest k x g h in omega (arith, r)

get_some : {X A : Type 0} (xs : List X) (n : ℕ) → n < length xs → slice_get xs n ≡ None → A
get_some [] n h e = grind arith
get_some (x ∷ xs) zero h e = never_some (sym e)
get_some (x ∷ xs) (suc n) h e = get_some xs n (omega (arith, h)) e

pub found_first : {X A : Type 0} (p : X → Bool) (xs : List X) (i : ℕ) (x : X) → slice_get xs i ≡ Some x → p x ≡ true → option_and_then (slice_get xs) (position p xs) ≡ None → A
found_first {X} {A} p xs i x e h none = by (nat_lt (position_or_len p xs) (length xs)) refl none
  where
    by : (b : Bool) → nat_lt (position_or_len p xs) (length xs) ≡ b → option_and_then (slice_get xs) (cond b (Some (position_or_len p xs)) None) ≡ None → A
    by true f g = get_some xs (position_or_len p xs) (first_below p xs i x e h) g
    by false f g =
        let k : position_or_len p xs < length xs = first_below p xs i x e h in
        let q : length xs ≤ position_or_len p xs = ltb-false (position_or_len p xs) (length xs) f in
        grind (arith, k, q)

pub position_none : {X : Type 0} (p : X → Bool) (xs : List X) → option_and_then (slice_get xs) (position p xs) ≡ None → position p xs ≡ None
position_none {X} p xs none = by (nat_lt (position_or_len p xs) (length xs)) refl none
  where
    by : (b : Bool) → nat_lt (position_or_len p xs) (length xs) ≡ b → option_and_then (slice_get xs) (cond b (Some (position_or_len p xs)) None) ≡ None
        → cond b (Some (position_or_len p xs)) None ≡ None
    by true f g = get_some xs (position_or_len p xs) (ltb-true (position_or_len p xs) (length xs) f) g
    by false f g = refl

-- the first that passes does
passes_first : {X : Type 0} (p : X → Bool) (xs : List X) (x : X) → slice_get xs (position_or_len p xs) ≡ Some x → p x ≡ true
passes_first p [] x e = never_some e
passes_first {X} p (z ∷ xs) x e = by (p z) refl e (passes_first p xs x)
  where
    by : (b : Bool) → p z ≡ b → slice_get (z ∷ xs) (cond (not b) (1 + position_or_len p xs) 0) ≡ Some x → (slice_get xs (position_or_len p xs) ≡ Some x → p x ≡ true) → p x ≡ true
    by true f g rest = sym (ap p (some_same g)) ∙ f
    by false f g rest = rest (sym (get_next xs z (position_or_len p xs)) ∙ g)
      where
        get_next : (ys : List X) (y : X) (n : ℕ) → slice_get (y ∷ ys) (1 + n) ≡ slice_get ys n
        get_next ys y n = ap (slice_get (y ∷ ys)) (one-add n)

pub position_passes : {X : Type 0} (p : X → Bool) (xs : List X) (n : ℕ) (x : X) → position p xs ≡ Some n → slice_get xs n ≡ Some x → p x ≡ true
position_passes {X} p xs n x e h = by (nat_lt (position_or_len p xs) (length xs)) e
  where
    by : (b : Bool) → cond b (Some (position_or_len p xs)) None ≡ Some n → p x ≡ true
    by true f = passes_first p xs x (subst (λ k. slice_get xs k ≡ Some x) (sym (some_same f)) h)
    by false f = never_some f
