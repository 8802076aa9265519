-- Lists: what a search finds, and what holds of each item.
use Rattle.std.proofs.Common.{◌≡◌, ◌⊎◌, ℕ, zero, suc, Bool, true, false, cond, if◌then◌else◌, List, [], ◌∷◌, ◌++◌, length, map, replicate, refl, sym, ap, subst, ◌∙◌, inl, inr}
use Rattle.std.specs.Prelude.{Some, None, slice_get, slice_set, slice_index_or}
use Rattle.std.specs.List.{find, position, position_or_len, AllByRecursion}
use Rattle.std.proofs.lemmas.Bool.{lt-ltb}
use Rattle.std.proofs.lemmas.List.Folds.{find_at}
use Rattle.std.proofs.lemmas.Option.{same_Some, slice_get_within}
use Rattle.std.proofs.lemmas.List.Elements.{All-set, recursion_from_All, All-from_recursion}
use Rattle.pw_files.proofs.Standing.{Has}

clash : (b : Bool) → b ≡ true → b ≡ false → ⊥
clash true d e = cc
clash false d e = cc

pub choose : {X : Type 0} (P : X → Type 0) (b : Bool) (x y : X) → P x → P y → P (if b then x else y)
choose P true x y h k = h
choose P false x y h k = k

found_by : {X : Type 0} (test : X → Bool) (b : Bool) (x y : X) (ys : List X) → test y ≡ b → (find test ys ≡ Some x → Has x ys × (test x ≡ true)) → cond b (Some y) (find test ys) ≡ Some x → Has x (y ∷ ys) × (test x ≡ true)
found_by test true x y ys e f g = let same : y ≡ x = same_Some y x g in (inl same, ap test (sym same) ∙ e)
found_by test false x y ys e f g = let r = f g in (inr r.0, r.1)

pub found : {X : Type 0} (test : X → Bool) (xs : List X) (x : X) → find test xs ≡ Some x → Has x xs × (test x ≡ true)
found test [] x e = absurd cc
found test (y ∷ ys) x e = found_by test (test y) x y ys refl (found test ys x) e

finds_by : {X : Type 0} (test : X → Bool) (b : Bool) (x y : X) (ys : List X) → test y ≡ b → Has x (y ∷ ys) → test x ≡ true → (Has x ys → (z : X) × (find test ys ≡ Some z)) → (z : X) × (cond b (Some y) (find test ys) ≡ Some z)
finds_by test true x y ys e h t f = (y, refl)
finds_by test false x y ys e (inl same) t f = absurd (clash (test y) (ap test same ∙ t) e)
finds_by test false x y ys e (inr h) t f = f h

pub finds : {X : Type 0} (test : X → Bool) (xs : List X) (x : X) → Has x xs → test x ≡ true → (z : X) × (find test xs ≡ Some z)
finds test [] x h e = absurd h
finds test (y ∷ ys) x h e = finds_by test (test y) x y ys refl h e (λ k. finds test ys x k e)

pub placed : {X : Type 0} (test : X → Bool) (xs : List X) (x : X) → Has x xs → test x ≡ true → position test xs ≡ Some (position_or_len test xs)
placed test xs x h e =
    let z = finds test xs x h e in
    let at = sym (find_at test xs) ∙ z.1 in
    ap (λ (b : Bool). cond b (Some (position_or_len test xs)) None) (lt-ltb (position_or_len test xs) (length xs) (slice_get_within xs (position_or_len test xs) z.0 at))

pub read_each : {X : Type 0} (P : X → Type 0) (xs : List X) (i : ℕ) (x : X) → AllByRecursion P xs → P x → P (slice_index_or xs i x)
read_each P [] i x all h = h
read_each P (y ∷ ys) zero x all h = all.0
read_each P (y ∷ ys) (suc i) x all h = read_each P ys i x all.1 h

pub set_each : {X : Type 0} (P : X → Type 0) (xs : List X) (i : ℕ) (x : X) → AllByRecursion P xs → P x → AllByRecursion P (slice_set xs i x)
set_each P xs i x all h = recursion_from_All P (slice_set xs i x) (All-set P xs i x h (All-from_recursion P xs all))

pub append_each : {X : Type 0} (P : X → Type 0) (xs ys : List X) → AllByRecursion P xs → AllByRecursion P ys → AllByRecursion P (xs ++ ys)
append_each P [] ys all more = more
append_each P (x ∷ xs) ys all more = (all.0, append_each P xs ys all.1 more)

pub replicate_each : {X : Type 0} (P : X → Type 0) (n : ℕ) (x : X) → P x → AllByRecursion P (replicate n x)
replicate_each P zero x h = tt
replicate_each P (suc n) x h = (h, replicate_each P n x h)

pub map_each : {X Y : Type 0} (P : Y → Type 0) (f : X → Y) → ((x : X) → P (f x)) → (xs : List X) → AllByRecursion P (map f xs)
map_each P f h [] = tt
map_each P f h (x ∷ xs) = (h x, map_each P f h xs)

pub map_each_of : {X Y : Type 0} (P : Y → Type 0) (f : X → Y) (xs : List X) → ((x : X) → Has x xs → P (f x)) → AllByRecursion P (map f xs)
map_each_of P f [] h = tt
map_each_of P f (x ∷ xs) h = (h x (inl refl), map_each_of P f xs (λ y k. h y (inr k)))

pub get_has : {X : Type 0} (xs : List X) (i : ℕ) (x : X) → slice_get xs i ≡ Some x → Has x xs
get_has [] i x e = absurd cc
get_has (y ∷ ys) zero x e = inl (same_Some y x e)
get_has (y ∷ ys) (suc i) x e = inr (get_has ys i x e)
