-- Lists: what a search finds, what a filter keeps, what holds of each item when one is changed.
use Rattle.std.proofs.Common.{◌≡◌, ℕ, zero, suc, Bool, true, false, ◌||◌, cond, if◌then◌else◌, List, [], ◌∷◌, ◌++◌, length, map, replicate, refl, sym, ap, subst, ◌∙◌, inl, inr}
use Rattle.std.specs.Prelude.{Some, None, slice_get, slice_set, slice_index_or}
use Rattle.std.specs.List.{filter, find, position, position_or_len, list_any, AllByRecursion}
use Rattle.std.proofs.lemmas.Bool.{lt-ltb}
use Rattle.std.proofs.lemmas.List.Folds.{find_at}
use Rattle.std.specs.Str.{bytes_eq}
use Rattle.std.proofs.lemmas.Option.{same_Some, slice_get_within}
use Rattle.std.proofs.lemmas.Slice.Eq.{bytes_eq-Decides}
use Rattle.std.proofs.lemmas.List.Elements.{All-set, recursion_from_All, All-from_recursion}
use Rattle.pw_files.proofs.Standing.{Has}

pub clash : (b : Bool) → b ≡ true → b ≡ false → ⊥
clash true d e = cc
clash false d e = cc

pub choose : {X : Type 0} (P : X → Type 0) (b : Bool) (x y : X) → P x → P y → P (if b then x else y)
choose P true x y h k = h
choose P false x y h k = k

-- ---- searches and filters

found_by : {X : Type 0} (test : X → Bool) (b : Bool) (x y : X) (ys : List X) → test y ≡ b → (find test ys ≡ Some x → Has x ys × (test x ≡ true)) → cond b (Some y) (find test ys) ≡ Some x → Has x (y ∷ ys) × (test x ≡ true)
found_by test true x y ys e f g = let same : y ≡ x = same_Some y x g in (inl same, ap test (sym same) ∙ e)
found_by test false x y ys e f g = let r = f g in (inr r.0, r.1)

pub found : {X : Type 0} (test : X → Bool) (xs : List X) (x : X) → find test xs ≡ Some x → Has x xs × (test x ≡ true)
found test [] x e = absurd cc
found test (y ∷ ys) x e = found_by test (test y) x y ys refl (found test ys x) e

finds_by : {X : Type 0} (test : X → Bool) (b : Bool) (x y : X) (ys : List X) → test y ≡ b → Has x (y ∷ ys) → test x ≡ true → (Has x ys → (z : X) × (find test ys ≡ Some z)) → (z : X) × (cond b (Some y) (find test ys) ≡ Some z)
finds_by test true x y ys e h t f = (y, refl)
finds_by test false x y ys e (inl same) t f = absurd (clash (test y) (ap test same ∙ t) e)
finds_by test false x y ys e (inr h) t f = f h

pub finds : {X : Type 0} (test : X → Bool) (xs : List X) (x : X) → Has x xs → test x ≡ true → (z : X) × (find test xs ≡ Some z)
finds test [] x h e = absurd h
finds test (y ∷ ys) x h e = finds_by test (test y) x y ys refl h e (λ k. finds test ys x k e)

-- the first one that passes has a place
pub placed : {X : Type 0} (test : X → Bool) (xs : List X) (x : X) → Has x xs → test x ≡ true → position test xs ≡ Some (position_or_len test xs)
placed test xs x h e =
    let z = finds test xs x h e in
    let at = sym (find_at test xs) ∙ z.1 in
    ap (λ (b : Bool). cond b (Some (position_or_len test xs)) None) (lt-ltb (position_or_len test xs) (length xs) (slice_get_within xs (position_or_len test xs) z.0 at))

filter_on : {X : Type 0} (b : Bool) (x y : X) (xs : List X) → Has x xs → Has x (cond b (y ∷ xs) xs)
filter_on true x y xs h = inr h
filter_on false x y xs h = h

pub has_filter : {X : Type 0} (test : X → Bool) (x : X) (xs : List X) → Has x xs → test x ≡ true → Has x (filter test xs)
has_filter test x [] h e = absurd h
has_filter test x (y ∷ ys) (inl same) e =
    let on : test y ≡ true = ap test same ∙ e in
    subst (λ (b : Bool). Has x (cond b (y ∷ filter test ys) (filter test ys))) (sym on) (inl same)
has_filter test x (y ∷ ys) (inr h) e = filter_on (test y) x y (filter test ys) (has_filter test x ys h e)

or_true : (a b : Bool) → b ≡ true → (a || b) ≡ true
or_true true b e = refl
or_true false b e = e

pub has_any : {X : Type 0} (test : X → Bool) (xs : List X) (x : X) → Has x xs → test x ≡ true → list_any test xs ≡ true
has_any test [] x h e = absurd h
has_any test (y ∷ ys) x (inl same) e =
    let on : test y ≡ true = ap test same ∙ e in
    subst (λ (b : Bool). (b || list_any test ys) ≡ true) (sym on) refl
has_any test (y ∷ ys) x (inr h) e = or_true (test y) (list_any test ys) (has_any test ys x h e)

any_by : {X : Type 0} (test : X → Bool) (b : Bool) (y : X) (ys : List X) → test y ≡ b → (list_any test ys ≡ true → (x : X) × Has x ys × (test x ≡ true)) → (b || list_any test ys) ≡ true → (x : X) × Has x (y ∷ ys) × (test x ≡ true)
any_by test true y ys e f o = (y, inl refl, e)
any_by test false y ys e f o = let r = f o in (r.0, inr r.1, r.2)

pub any_has : {X : Type 0} (test : X → Bool) (xs : List X) → list_any test xs ≡ true → (x : X) × Has x xs × (test x ≡ true)
any_has test [] e = absurd cc
any_has test (y ∷ ys) e = any_by test (test y) y ys refl (any_has test ys) e

-- a name stands among names
pub named_has : (names : List (List ℕ)) (name : List ℕ) → list_any (bytes_eq name) names ≡ true → Has name names
named_has names name e =
    let r = any_has (bytes_eq name) names e in
    let same : name ≡ r.0 = (bytes_eq-Decides name r.0).0 r.2 in
    subst (λ (n : List ℕ). Has n names) (sym same) r.1

pub has_named : (names : List (List ℕ)) (name : List ℕ) → Has name names → list_any (bytes_eq name) names ≡ true
has_named names name h = has_any (bytes_eq name) names name h ((bytes_eq-Decides name name).1 refl)

-- ---- what holds of each item

pub read_each : {X : Type 0} (P : X → Type 0) (xs : List X) (i : ℕ) (x : X) → AllByRecursion P xs → P x → P (slice_index_or xs i x)
read_each P [] i x all h = h
read_each P (y ∷ ys) zero x all h = all.0
read_each P (y ∷ ys) (suc i) x all h = read_each P ys i x all.1 h

pub set_each : {X : Type 0} (P : X → Type 0) (xs : List X) (i : ℕ) (x : X) → AllByRecursion P xs → P x → AllByRecursion P (slice_set xs i x)
set_each P xs i x all h = recursion_from_All P (slice_set xs i x) (All-set P xs i x h (All-from_recursion P xs all))

pub append_each : {X : Type 0} (P : X → Type 0) (xs ys : List X) → AllByRecursion P xs → AllByRecursion P ys → AllByRecursion P (xs ++ ys)
append_each P [] ys all more = more
append_each P (x ∷ xs) ys all more = (all.0, append_each P xs ys all.1 more)

pub replicate_each : {X : Type 0} (P : X → Type 0) (n : ℕ) (x : X) → P x → AllByRecursion P (replicate n x)
replicate_each P zero x h = tt
replicate_each P (suc n) x h = (h, replicate_each P n x h)

pub map_each : {X Y : Type 0} (P : Y → Type 0) (f : X → Y) → ((x : X) → P (f x)) → (xs : List X) → AllByRecursion P (map f xs)
map_each P f h [] = tt
map_each P f h (x ∷ xs) = (h x, map_each P f h xs)

pub map_each_of : {X Y : Type 0} (P : Y → Type 0) (f : X → Y) (xs : List X) → ((x : X) → Has x xs → P (f x)) → AllByRecursion P (map f xs)
map_each_of P f [] h = tt
map_each_of P f (x ∷ xs) h = (h x (inl refl), map_each_of P f xs (λ y k. h y (inr k)))

pub get_has : {X : Type 0} (xs : List X) (i : ℕ) (x : X) → slice_get xs i ≡ Some x → Has x xs
get_has [] i x e = absurd cc
get_has (y ∷ ys) zero x e = inl (same_Some y x e)
get_has (y ∷ ys) (suc i) x e = inr (get_has ys i x e)
