-- Lists of names that stand once.
use Rattle.std.proofs.Common.{◌≡◌, ◌≢◌, ℕ, suc, ◌≤◌, List, [], ◌∷◌, ◌++◌, length, refl, sym, ap, subst, ◌∙◌, arith, inl, inr}
use Rattle.pw_flow.specs.ValidFlow.{AreDistinct}
use Rattle.pw_files.specs.Rising.{IsRising, IsRisingBehind}
use Rattle.pw_files.proofs.Standing.{Has, has_each, each_by, has_right, has_split}
use Rattle.pw_files.proofs.ByteOrder.{not_behind}
use Rattle.std.specs.Prelude.{Option, Some, None}

-- ---- how many there are

-- a list without an item that stands in it
abbrev without : (x : List ℕ) (ys : List (List ℕ)) → Has x ys → List (List ℕ)
without x [] h = []
without x (y ∷ ys) (inl e) = ys
without x (y ∷ ys) (inr h) = y ∷ without x ys h

one_less : (x : List ℕ) (ys : List (List ℕ)) (h : Has x ys) → length ys ≡ suc (length (without x ys h))
one_less x [] h = absurd h
one_less x (y ∷ ys) (inl e) = refl
one_less x (y ∷ ys) (inr h) = ap suc (one_less x ys h)

others_stay : (x z : List ℕ) (ys : List (List ℕ)) (h : Has x ys) → Has z ys → z ≢ x → Has z (without x ys h)
others_stay x z [] h k other = absurd h
others_stay x z (y ∷ ys) (inl e) (inl d) other = absurd (other (sym d ∙ e))
others_stay x z (y ∷ ys) (inl e) (inr k) other = k
others_stay x z (y ∷ ys) (inr h) (inl d) other = inl d
others_stay x z (y ∷ ys) (inr h) (inr k) other = inr (others_stay x z ys h k other)

few : (xs ys : List (List ℕ)) → AreDistinct xs → ((n : List ℕ) → Has n xs → Has n ys) → length xs ≤ length ys
few [] ys all over = omega arith
few (x ∷ xs) ys all over =
    let h = over x (inl refl) in
    let rest = few xs (without x ys h) all.1 (λ n k. others_stay x n ys h (over n (inr k)) (has_each (λ (o : List ℕ). o ≢ x) xs n all.0 k)) in
    let less = one_less x ys h in
    omega (arith, rest, less)

pub same_count : (xs ys : List (List ℕ)) → AreDistinct xs → AreDistinct ys → ((n : List ℕ) → Has n xs → Has n ys) → ((n : List ℕ) → Has n ys → Has n xs) → length xs ≡ length ys
same_count xs ys one two over back = let a = few xs ys one over in let b = few ys xs two back in omega (arith, a, b)

-- ---- names that rise, and names of two lists

distinct_behind : (before : Option (List ℕ)) (xs : List (List ℕ)) → IsRisingBehind before xs → AreDistinct xs
distinct_behind before [] up = tt
distinct_behind before (x ∷ xs) up =
    (each_by (λ (o : List ℕ). o ≢ x) xs (λ n h e. not_behind x xs up.1 (subst (λ (m : List ℕ). Has m xs) e h)), distinct_behind (Some x) xs up.1)

pub rising_distinct : (xs : List (List ℕ)) → IsRising xs → AreDistinct xs
rising_distinct xs up = distinct_behind None xs up

pub both_distinct : (xs ys : List (List ℕ)) → AreDistinct xs → AreDistinct ys → ((n : List ℕ) → Has n xs → Has n ys → ⊥) → AreDistinct (xs ++ ys)
both_distinct [] ys one two across = two
both_distinct (x ∷ xs) ys one two across = (
  each_by (λ (o : List ℕ). o ≢ x) (xs ++ ys) (λ n h e. elim (has_split n xs ys h) [
    | inl k ↦ has_each (λ (o : List ℕ). o ≢ x) xs n one.0 k e
    | inr k ↦ across x (inl refl) (subst (λ (m : List ℕ). Has m ys) e k)
  ]),
  both_distinct xs ys one.1 two (λ n h k. across n (inr h) k),
)

pub across_distinct : (xs ys : List (List ℕ)) → AreDistinct (xs ++ ys) → (n : List ℕ) → Has n xs → Has n ys → ⊥
across_distinct [] ys all n h k = h
across_distinct (x ∷ xs) ys all n (inl e) k = has_each (λ (o : List ℕ). o ≢ x) (xs ++ ys) n all.0 (has_right n xs ys k) (sym e)
across_distinct (x ∷ xs) ys all n (inr h) k = across_distinct xs ys all.1 n h k
