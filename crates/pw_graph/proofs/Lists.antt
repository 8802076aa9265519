-- Lists: what a filter keeps, and names that stand once.
use Rattle.std.proofs.Common.{◌≡◌, ◌⊎◌, ℕ, zero, suc, ◌≤◌, false, List, [], ◌∷◌, ◌++◌, length, map, refl, sym, ap, subst, ◌∙◌, arith, inl, inr}
use Rattle.std.specs.Prelude.{Option, Some, None, slice_get}
use Rattle.std.specs.List.{filter_map, cons_option, AllByRecursion, IsDistinct, AllZip}
use Rattle.std.specs.Str.{bytes_eq}
use Rattle.std.specs.List.Sorted.{IsPermutation}
use Rattle.std.proofs.lemmas.List.{length-map}
use Rattle.std.proofs.lemmas.List.Sorted.{length_permutation}
use Rattle.pw_files.specs.Rising.{IsRising, IsRisingBehind}
use Rattle.pw_files.proofs.Standing.{Has, each_by, has_split}
use Rattle.pw_files.proofs.ByteOrder.{differ, not_behind}

-- ---- a filter

cons_has : {X : Type 0} (o : Option X) (y : X) (ys : List X) → Has y (cons_option o ys) → (o ≡ Some y) ⊎ Has y ys
cons_has None y ys h = inr h
cons_has (Some x) y ys (inl e) = inl (ap Some e)
cons_has (Some x) y ys (inr h) = inr h

cons_more : {X : Type 0} (o : Option X) (y : X) (ys : List X) → Has y ys → Has y (cons_option o ys)
cons_more None y ys h = h
cons_more (Some x) y ys h = inr h

cons_this : {X : Type 0} (o : Option X) (y : X) (ys : List X) → o ≡ Some y → Has y (cons_option o ys)
cons_this {X} o y ys e = subst (λ (p : Option X). Has y (cons_option p ys)) (sym e) (inl refl)

pub has_filtered : {X Y : Type 0} (h : X → Option Y) (xs : List X) (x : X) (y : Y) → Has x xs → h x ≡ Some y → Has y (filter_map h xs)
has_filtered h [] x y k e = absurd k
has_filtered h (z ∷ zs) x y (inl same) e = cons_this (h z) y (filter_map h zs) (ap h same ∙ e)
has_filtered h (z ∷ zs) x y (inr k) e = cons_more (h z) y (filter_map h zs) (has_filtered h zs x y k e)

pub has_filtered_back : {X Y : Type 0} (h : X → Option Y) (xs : List X) (y : Y) → Has y (filter_map h xs) → (x : X) × Has x xs × (h x ≡ Some y)
has_filtered_back h [] y k = absurd k
has_filtered_back h (z ∷ zs) y k = elim (cons_has (h z) y (filter_map h zs) k) [
  | inl e ↦ (z, inl refl, e)
  | inr j ↦ let p = has_filtered_back h zs y j in (p.0, inr p.1, p.2)
]

cons_length : {X : Type 0} (o : Option X) (ys : List X) (n : ℕ) → length ys ≤ n → length (cons_option o ys) ≤ suc n
cons_length None ys n h = omega arith
cons_length (Some x) ys n h = omega arith

pub length_filtered : {X Y : Type 0} (h : X → Option Y) (xs : List X) → length (filter_map h xs) ≤ length xs
length_filtered h [] = omega arith
length_filtered h (x ∷ xs) = cons_length (h x) (filter_map h xs) (length xs) (length_filtered h xs)

-- ---- names that stand once

abbrev pub Apart : List (List ℕ) → Type 0
Apart [] = Unit {0}
Apart (x ∷ xs) = (¬ Has x xs) × Apart xs

pub distinct : (xs : List (List ℕ)) → Apart xs → IsDistinct bytes_eq xs
unfolding IsDistinct
distinct [] all = tt
distinct (x ∷ xs) all = (each_by (λ y. bytes_eq x y ≡ false) xs (λ y h. differ x y (λ e. all.0 (subst (λ z. Has z xs) (sym e) h))), distinct xs all.1)

pub apart_append : (xs ys : List (List ℕ)) → Apart xs → Apart ys → ((x : List ℕ) → Has x xs → Has x ys → ⊥) → Apart (xs ++ ys)
apart_append [] ys one two across = two
apart_append (x ∷ xs) ys one two across = (
  λ h. elim (has_split x xs ys h) [ inl k ↦ one.0 k | inr k ↦ across x (inl refl) k ],
  apart_append xs ys one.1 two (λ z h k. across z (inr h) k),
)

apart_behind : (before : Option (List ℕ)) (xs : List (List ℕ)) → IsRisingBehind before xs → Apart xs
apart_behind before [] up = tt
apart_behind before (x ∷ xs) up = (not_behind x xs up.1, apart_behind (Some x) xs up.1)

pub rising_apart : (xs : List (List ℕ)) → IsRising xs → Apart xs
rising_apart xs up = apart_behind None xs up

-- ---- places

pub has_at : {X : Type 0} (xs : List X) (i : ℕ) (x : X) → slice_get xs i ≡ Some x → Has x xs
has_at [] i x e = absurd cc
has_at (y ∷ ys) zero x e = inl cc
has_at (y ∷ ys) (suc i) x e = inr (has_at ys i x e)

pub at_has : {X : Type 0} (xs : List X) (x : X) → Has x xs → (i : ℕ) × (slice_get xs i ≡ Some x)
at_has [] x h = absurd h
at_has (y ∷ ys) x (inl e) = (0, ap Some e)
at_has (y ∷ ys) x (inr h) = let p = at_has ys x h in (suc p.0, p.1)

pub mapped_at : {X Y : Type 0} (h : X → Y) (xs : List X) (i : ℕ) (y : Y) → slice_get (map h xs) i ≡ Some y → (x : X) × (slice_get xs i ≡ Some x) × (h x ≡ y)
mapped_at h [] i y e = absurd cc
mapped_at h (x ∷ xs) zero y e = (x, refl, cc)
mapped_at h (x ∷ xs) (suc i) y e = mapped_at h xs i y e

pub at_mapped : {X Y : Type 0} (h : X → Y) (xs : List X) (i : ℕ) (x : X) → slice_get xs i ≡ Some x → slice_get (map h xs) i ≡ Some (h x)
at_mapped h [] i x e = absurd cc
at_mapped h (y ∷ xs) zero x e = let same : y ≡ x = cc in ap (λ z. Some (h z)) same
at_mapped h (y ∷ xs) (suc i) x e = at_mapped h xs i x e

-- in lists item by item alike the items at one place are alike
pub zip_at : {A B : Type 0} (R : A → B → Type 0) (xs : List A) (ys : List B) → AllZip R xs ys → (i : ℕ) (y : B) → slice_get ys i ≡ Some y → (x : A) × (slice_get xs i ≡ Some x) × R x y
zip_at R [] [] all i y e = absurd cc
zip_at R [] (z ∷ zs) all i y e = absurd all
zip_at R (x ∷ xs) [] all i y e = absurd cc
zip_at R (x ∷ xs) (z ∷ zs) all zero y e = let same : z ≡ y = cc in (x, refl, subst (R x) same all.0)
zip_at R (x ∷ xs) (z ∷ zs) all (suc i) y e = zip_at R xs zs all.1 i y e

pub at_zip : {A B : Type 0} (R : A → B → Type 0) (xs : List A) (ys : List B) → AllZip R xs ys → (i : ℕ) (x : A) → slice_get xs i ≡ Some x → (y : B) × (slice_get ys i ≡ Some y) × R x y
at_zip R [] [] all i x e = absurd cc
at_zip R [] (z ∷ zs) all i x e = absurd all
at_zip R (z ∷ zs) [] all i x e = absurd all
at_zip R (w ∷ xs) (z ∷ zs) all zero x e = let same : w ≡ x = cc in (z, refl, subst (λ v. R v z) same all.0)
at_zip R (w ∷ xs) (z ∷ zs) all (suc i) x e = at_zip R xs zs all.1 i x e

pub zip_length : {A B : Type 0} (R : A → B → Type 0) (xs : List A) (ys : List B) → AllZip R xs ys → length ys ≡ length xs
zip_length R [] [] all = refl
zip_length R [] (z ∷ zs) all = absurd all
zip_length R (z ∷ zs) [] all = absurd all
zip_length R (x ∷ xs) (z ∷ zs) all = ap suc (zip_length R xs zs all.1)

pub zip_each : {A B : Type 0} (R : A → B → Type 0) (P : B → Type 0) → ((x : A) (y : B) → R x y → P y) → (xs : List A) (ys : List B) → AllZip R xs ys → AllByRecursion P ys
zip_each R P f [] [] all = tt
zip_each R P f [] (z ∷ zs) all = absurd all
zip_each R P f (z ∷ zs) [] all = absurd all
zip_each R P f (x ∷ xs) (z ∷ zs) all = (f x z all.0, zip_each R P f xs zs all.1)

-- a sort keeps the count
pub sorted_count : {R X : Type 0} (view : R → X) (source : List X) (chosen sorted : List R) → map view chosen ≡ source → IsPermutation chosen sorted → length (map view sorted) ≡ length source
sorted_count view source chosen sorted same moved = length-map sorted view ∙ length_permutation chosen sorted moved ∙ sym (length-map chosen view) ∙ ap length same
