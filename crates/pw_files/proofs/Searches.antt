-- Finding an item by its key in a list in byte order.
use Rattle.std.proofs.Common.{◌≡◌, ℕ, zero, suc, ◌<◌, false, List, [], ◌∷◌, length, get_or, map, sym, ap, ◌∙◌, arith, add-one, inl, inr}
use Rattle.std.specs.Prelude.{Contains, Option, Some, None}
use Rattle.std.specs.List.{HoldsAt}
use Rattle.std.specs.List.Sorted.{IsNonDecreasingBy, IsPartitionPoint, IsSortedBy}
use Rattle.std.specs.Ordering.{nat_cmp, is_lt, ordering_index, ordering_reverse}
use Rattle.std.specs.Cmp.Lexicographic.{slice_cmp}
use Rattle.std.specs.declared.cmp.Ordering.TheVariants.{Less, Equal, Greater}
use Rattle.std.proofs.lemmas.Bool.{cases_lt}
use Rattle.std.proofs.lemmas.Cmp.{tied_itself, nat_list_cmp_total}
use Rattle.std.proofs.lemmas.Map.Lookups.{exact_bytes}
use Rattle.std.proofs.lemmas.List.{get_or-map, length-map}
use Rattle.std.proofs.lemmas.List.Sorted.{searchable_from_sorted}
use Rattle.pw_files.specs.Rising.{IsRising, IsRisingBehind}

-- a search that found something
pub found : {X : Type 0} (key : X → List ℕ) (xs : List X) (name : List ℕ) (i : ℕ) → HoldsAt (λ y. slice_cmp nat_cmp (key y) name ≡ Equal) xs i → HoldsAt (λ y. key y ≡ name) xs i
found key xs name i at d = exact_bytes (key (get_or xs i d)) name (at d)

adjacent : {X : Type 0} (key : X → List ℕ) (before : Option (List ℕ)) (xs : List X) → IsRisingBehind before (map key xs) → (k : ℕ) (d : X) → suc k < length xs → is_lt (slice_cmp nat_cmp (key (get_or xs (suc k) d)) (key (get_or xs k d))) ≡ false
adjacent key before [] rising k d lt = absurd (omega (arith, lt))
adjacent key before (x ∷ []) rising k d lt = absurd (omega (arith, lt))
adjacent key before (x ∷ y ∷ xs) rising zero d lt = ap is_lt (nat_list_cmp_total.antisymm (key y) (key x) ∙ ap ordering_reverse rising.1.0)
adjacent key before (x ∷ y ∷ xs) rising (suc k) d lt = adjacent key (Some (key x)) (y ∷ xs) rising.1 k d (omega (arith, lt))

rising_sorted : {X : Type 0} (key : X → List ℕ) (xs : List X) → IsRising (map key xs) → IsSortedBy (λ a b. is_lt (slice_cmp nat_cmp (key a) (key b))) xs
rising_sorted key xs rising k d low high = rw add-one (adjacent key None xs rising k d (omega (arith, high)))

none_at : {X : Type 0} (key : X → List ℕ) (xs : List X) (name : List ℕ) (i : ℕ) (x : X) → IsRising (map key xs)
    → (IsNonDecreasingBy (λ y. ordering_index (slice_cmp nat_cmp (key y) name)) xs → IsPartitionPoint (λ y. slice_cmp nat_cmp (key y) name ≡ Less) (λ y. slice_cmp nat_cmp (key y) name ≡ Greater) xs i)
    → (k : ℕ) → k < length xs → key (get_or xs k x) ≡ name → ⊥
none_at {X} key xs name i x rising point k lt e =
    let parts = point (searchable_from_sorted nat_list_cmp_total key xs name (rising_sorted key xs rising)) in
    let level : slice_cmp nat_cmp (key (get_or xs k x)) name ≡ Equal = ap (λ y. slice_cmp nat_cmp y name) e ∙ tied_itself nat_list_cmp_total name in
    elim (cases_lt k i) [
      | inl low ↦ let less = parts.0 k x (omega arith) low in cc
      | inr high ↦ let greater = parts.1 k x high lt in cc
    ]

-- a search that found nothing
pub found_none : {X : Type 0} (key : X → List ℕ) (xs : List X) (name : List ℕ) (i : ℕ) → IsRising (map key xs)
    → (IsNonDecreasingBy (λ y. ordering_index (slice_cmp nat_cmp (key y) name)) xs → IsPartitionPoint (λ y. slice_cmp nat_cmp (key y) name ≡ Less) (λ y. slice_cmp nat_cmp (key y) name ≡ Greater) xs i)
    → Contains (map key xs) name → ⊥
found_none key [] name i rising point h = omega (arith, h.1)
found_none key (x ∷ xs) name i rising point h =
    let lt : h.0 < length (x ∷ xs) = omega (arith, h.1, length-map (x ∷ xs) key) in
    none_at key (x ∷ xs) name i x rising point h.0 lt (sym (get_or-map key (x ∷ xs) h.0 x name lt) ∙ h.2)
