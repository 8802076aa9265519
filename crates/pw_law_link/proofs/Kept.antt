-- What holds of each item, or of some item, of lists that are put together.
use Rattle.std.proofs.Common.{◌≡◌, ◌⊎◌, inl, inr, ℕ, zero, suc, Bool, true, false, ◌||◌, List, [], ◌∷◌, ◌++◌, map, insert, refl, ap, ◌∙◌}
use Rattle.std.specs.Prelude.{fold}
use Rattle.std.specs.List.{AllByRecursion, list_any, flat_map}
use Rattle.std.proofs.lemmas.List.Folds.{list_any-append}

pub all_insert : {X : Type 0} (P : X → Type 0) (xs : List X) (i : ℕ) (x : X) → AllByRecursion P xs → P x → AllByRecursion P (insert xs i x)
all_insert P xs zero x all here = (here, all)
all_insert P [] (suc i) x all here = (here, all)
all_insert P (y ∷ xs) (suc i) x all here = (all.0, all_insert P xs i x all.1 here)

pub all_placed : {X : Type 0} (P : X → Type 0) (place : X → List X → ℕ) (xs order : List X) → AllByRecursion P order → AllByRecursion P xs → AllByRecursion P (fold (λ o x. insert o (place x o) x) order xs)
all_placed P place [] order before all = before
all_placed P place (x ∷ xs) order before all = all_placed P place xs (insert order (place x order) x) (all_insert P order (place x order) x before all.0) all.1

pub all_append : {X : Type 0} (P : X → Type 0) (xs ys : List X) → AllByRecursion P xs → AllByRecursion P ys → AllByRecursion P (xs ++ ys)
all_append P [] ys front back = back
all_append P (x ∷ xs) ys front back = (front.0, all_append P xs ys front.1 back)

pub all_map : {X Y : Type 0} (P : Y → Type 0) (f : X → Y) (xs : List X) → AllByRecursion (λ x. P (f x)) xs → AllByRecursion P (map f xs)
all_map P f [] all = tt
all_map P f (x ∷ xs) all = (all.0, all_map P f xs all.1)

pub all_flat : {X Y : Type 0} (P : Y → Type 0) (f : X → List Y) (xs : List X) → AllByRecursion (λ x. AllByRecursion P (f x)) xs → AllByRecursion P (flat_map f xs)
all_flat P f [] all = tt
all_flat P f (x ∷ xs) all = all_append P (f x) (flat_map f xs) all.0 (all_flat P f xs all.1)

pub all_by : {X : Type 0} (P Q : X → Type 0) (xs : List X) → ((x : X) → P x → Q x) → AllByRecursion P xs → AllByRecursion Q xs
all_by P Q [] each all = tt
all_by P Q (x ∷ xs) each all = (each x all.0, all_by P Q xs each all.1)

or_right : (b : Bool) → (b || true) ≡ true
or_right true = refl
or_right false = refl

pub any_insert : {X : Type 0} (q : X → Bool) (xs : List X) (i : ℕ) (x : X) → (q x || list_any q xs) ≡ true → list_any q (insert xs i x) ≡ true
any_insert q xs zero x some = some
any_insert q [] (suc i) x some = some
any_insert q (y ∷ xs) (suc i) x some = by (q x) (q y) (list_any q xs) (list_any q (insert xs i x)) some (any_insert q xs i x)
  where
    by : (a b c d : Bool) → (a || (b || c)) ≡ true → ((a || c) ≡ true → d ≡ true) → (b || d) ≡ true
    by a true c d e next = refl
    by true false c d e next = next refl
    by false false c d e next = next e

or_true : (b c : Bool) → (b ≡ true) ⊎ (c ≡ true) → (b || c) ≡ true
or_true true c e = refl
or_true false c (inl e) = absurd cc
or_true false c (inr e) = e

true_or : (b c : Bool) → (b || c) ≡ true → (b ≡ true) ⊎ (c ≡ true)
true_or true c e = inl refl
true_or false c e = inr e

carried : {X : Type 0} (q : X → Bool) (xs order : List X) (i : ℕ) (x : X) → (list_any q order ≡ true) ⊎ ((q x || list_any q xs) ≡ true) → (list_any q (insert order i x) ≡ true) ⊎ (list_any q xs ≡ true)
carried q xs order i x (inl e) = inl (any_insert q order i x (or_true (q x) (list_any q order) (inr e)))
carried q xs order i x (inr e) = elim (true_or (q x) (list_any q xs) e) [
  | inl here ↦ inl (any_insert q order i x (or_true (q x) (list_any q order) (inl here)))
  | inr later ↦ inr later
]

pub any_placed : {X : Type 0} (q : X → Bool) (place : X → List X → ℕ) (xs order : List X) → (list_any q order ≡ true) ⊎ (list_any q xs ≡ true) → list_any q (fold (λ o x. insert o (place x o) x) order xs) ≡ true
any_placed q place [] order (inl e) = e
any_placed q place [] order (inr e) = absurd cc
any_placed q place (x ∷ xs) order some = any_placed q place xs (insert order (place x order) x) (carried q xs order (place x order) x some)

pub any_append : {X : Type 0} (q : X → Bool) (xs ys : List X) → (list_any q xs ≡ true) ⊎ (list_any q ys ≡ true) → list_any q (xs ++ ys) ≡ true
any_append q xs ys some = list_any-append q xs ys ∙ or_true (list_any q xs) (list_any q ys) some

pub any_flat : {X Y : Type 0} (q : Y → Bool) (f : X → List Y) (xs : List X) → list_any q (flat_map f xs) ≡ list_any (λ x. list_any q (f x)) xs
any_flat q f [] = refl
any_flat q f (x ∷ xs) = list_any-append q (f x) (flat_map f xs) ∙ ap (λ (b : Bool). list_any q (f x) || b) (any_flat q f xs)

all_left : {X : Type 0} (P : X → Type 0) (xs ys : List X) → AllByRecursion P (xs ++ ys) → AllByRecursion P xs
all_left P [] ys all = tt
all_left P (x ∷ xs) ys all = (all.0, all_left P xs ys all.1)

all_right : {X : Type 0} (P : X → Type 0) (xs ys : List X) → AllByRecursion P (xs ++ ys) → AllByRecursion P ys
all_right P [] ys all = all
all_right P (x ∷ xs) ys all = all_right P xs ys all.1

-- what holds of each item of lists behind one another holds of each item of each
pub each_flat : {X Y : Type 0} (P : Y → Type 0) (f : X → List Y) (xs : List X) → AllByRecursion P (flat_map f xs) → AllByRecursion (λ x. AllByRecursion P (f x)) xs
each_flat P f [] all = tt
each_flat P f (x ∷ xs) all = (all_left P (f x) (flat_map f xs) all, each_flat P f xs (all_right P (f x) (flat_map f xs) all))
