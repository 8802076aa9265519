-- Lists in byte order of their items' keys.
use Rattle.std.proofs.Common.{◌≡◌, ◌≢◌, ℕ, suc, ◌+◌, Bool, true, false, List, [], ◌∷◌, get_or, map, refl, sym, ap, subst, ◌∙◌, arith, inl, inr}
use Rattle.std.specs.Prelude.{◌↔◌, Contains, Option, Some, None}
use Rattle.std.specs.List.{IsDistinct}
use Rattle.std.specs.List.Sorted.{IsPermutation, IsSortedBy, IsStrictlySortedBy}
use Rattle.std.specs.Str.{bytes_eq}
use Rattle.std.specs.Ordering.{nat_cmp, is_lt, is_eq, ordering_reverse}
use Rattle.std.specs.Cmp.Lexicographic.{slice_cmp, texts_ties}
use Rattle.std.specs.declared.cmp.Ordering.{Ordering}
use Rattle.std.specs.declared.cmp.Ordering.TheVariants.{Less, Equal, Greater}
use Rattle.std.proofs.lemmas.Cmp.{nat_list_cmp_total, tied_itself}
use Rattle.std.proofs.lemmas.Slice.Eq.{bytes_eq-Decides}
use Rattle.std.proofs.lemmas.List.Sorted.{IsPermutation-map, IsPermutation-sym, Contains-permutation}
use Rattle.std.proofs.lemmas.Map.Keys.{IsDistinct-IsPermutation}
use Rattle.pw_fields.specs.FieldNames.{IsRisingFrom}
use Rattle.pw_files.specs.Rising.{IsRising, IsRisingBehind, IsAbove}
use Rattle.pw_files.proofs.Standing.{Has, apart, contains_by, has_by, has_map}
use Rattle.pw_files.proofs.Views.{seen}

-- ---- keys that differ, in order

differ_by : (a b : List ℕ) (t : Bool) → bytes_eq a b ≡ t → a ≢ b → bytes_eq a b ≡ false
differ_by a b true is differs = absurd (differs ((bytes_eq-Decides a b).0 is))
differ_by a b false is differs = is

pub differ : (a b : List ℕ) → a ≢ b → bytes_eq a b ≡ false
differ a b differs = differ_by a b (bytes_eq a b) refl differs

flips_by : (a b : List ℕ) (t u : Bool) → bytes_eq a b ≡ t → bytes_eq b a ≡ u → t ≡ u
flips_by a b true true e d = refl
flips_by a b true false e d = absurd (apart (sym d ∙ (bytes_eq-Decides b a).1 (sym ((bytes_eq-Decides a b).0 e))))
flips_by a b false true e d = absurd (apart (sym e ∙ (bytes_eq-Decides a b).1 (sym ((bytes_eq-Decides b a).0 d))))
flips_by a b false false e d = refl

flips : (a b : List ℕ) → bytes_eq a b ≡ bytes_eq b a
flips a b = flips_by a b (bytes_eq a b) (bytes_eq b a) refl refl

below_by : (o p : Ordering) → o ≡ ordering_reverse p → is_lt p ≡ false → is_eq o ≡ false → o ≡ Less
below_by Less p e l q = refl
below_by Equal p e l q = absurd cc
below_by Greater Less e l q = absurd cc
below_by Greater Equal e l q = absurd cc
below_by Greater Greater e l q = absurd cc

rises : {R : Type 0} (key : R → List ℕ) (before : Option (List ℕ)) (x : R) (xs : List R) → IsAbove before (key x) → IsSortedBy (λ a b. is_lt (slice_cmp nat_cmp (key a) (key b))) (x ∷ xs) → IsDistinct bytes_eq (map key (x ∷ xs)) → IsRisingBehind before (map key (x ∷ xs))
unfolding IsDistinct
rises key before x [] above up apart_all = (above, tt)
rises key before x (y ∷ xs) above up apart_all = (
  above,
  rises key (Some (key x)) y xs
      (below_by (slice_cmp nat_cmp (key x) (key y)) (slice_cmp nat_cmp (key y) (key x)) (nat_list_cmp_total.antisymm (key x) (key y)) (up 0 y (omega arith) (omega arith)) (sym (texts_ties (key x) (key y)) ∙ apart_all.0.0))
      (λ k d low high. let shift : suc k + 1 ≡ suc (k + 1) = omega arith in
      subst (λ n. is_lt (slice_cmp nat_cmp (key (get_or (x ∷ y ∷ xs) n d)) (key (get_or (y ∷ xs) k d))) ≡ false) shift (up (suc k) d (omega arith) (omega arith)))
      apart_all.1,
)

rising : {R : Type 0} (key : R → List ℕ) (xs : List R) → IsSortedBy (λ a b. is_lt (slice_cmp nat_cmp (key a) (key b))) xs → IsDistinct bytes_eq (map key xs) → IsRising (map key xs)
rising key [] up apart_all = tt
rising key (x ∷ xs) up apart_all = rises key None x xs tt up apart_all

-- ---- a list that is sorted

-- what is seen of a sorted list whose keys differ: it rises, and it has what the source has
pub sorted_rises : {R X : Type 0} (view : R → X) (key : X → List ℕ) (source : List X) (chosen sorted : List R) → map view chosen ≡ source → IsDistinct bytes_eq (map key source) → IsPermutation chosen sorted
    → IsSortedBy (λ a b. is_lt (slice_cmp nat_cmp (key (view a)) (key (view b)))) sorted → IsRising (map key (map view sorted)) × ((x : X) → Contains (map view sorted) x ↔ Contains source x)
sorted_rises {R} {X} view key source chosen sorted same differs moved up =
    let there = IsPermutation-map view chosen sorted moved in
    let back = IsPermutation-sym (map view chosen) (map view sorted) there in
    let keys_moved = IsPermutation-map key (map view chosen) (map view sorted) there in
    let apart_chosen = subst (λ (xs : List X). IsDistinct bytes_eq (map key xs)) (sym same) differs in
    let apart_sorted = IsDistinct-IsPermutation bytes_eq flips (map key (map view chosen)) (map key (map view sorted)) keys_moved apart_chosen in (
      subst IsRising (sym (seen view key sorted)) (rising (λ r. key (view r)) sorted up (subst (IsDistinct bytes_eq) (seen view key sorted) apart_sorted)),
      λ x. (
        λ h. subst (λ (xs : List X). Contains xs x) same (Contains-permutation (map view sorted) (map view chosen) x back h),
        λ h. Contains-permutation (map view chosen) (map view sorted) x there (subst (λ (xs : List X). Contains xs x) (sym same) h),
      ),
    )

-- ---- a list without repeats that is sorted

strictly_rises : (before : List ℕ) (texts : List (List ℕ)) → IsStrictlySortedBy (slice_cmp nat_cmp) (before ∷ texts) → IsRisingBehind (Some before) texts
unfolding IsStrictlySortedBy
strictly_rises before [] up = tt
strictly_rises before (text ∷ texts) up = (up.0.0, strictly_rises text texts up.1)

pub strictly_rising : (texts : List (List ℕ)) → IsStrictlySortedBy (slice_cmp nat_cmp) texts → IsRising texts
strictly_rising [] up = tt
strictly_rising (text ∷ texts) up = (tt, strictly_rises text texts up)

-- ---- a table of names

rises_behind : (before : List ℕ) (names : List (List ℕ)) → IsRisingFrom before names → IsRisingBehind (Some before) names
rises_behind before [] up = tt
rises_behind before (name ∷ names) up = (up.1, rises_behind name names up.2)

pub table_rises : (names : List (List ℕ)) → IsRisingFrom [] names → IsRising names
table_rises [] up = tt
table_rises (name ∷ names) up = (tt, rises_behind name names up.2)

-- ---- keys behind another

pub behind : (low : List ℕ) (names : List (List ℕ)) (name : List ℕ) → IsRisingBehind (Some low) names → Has name names → slice_cmp nat_cmp low name ≡ Less
behind low [] name up h = absurd h
behind low (next ∷ names) name up (inl e) = subst (λ n. slice_cmp nat_cmp low n ≡ Less) e up.0
behind low (next ∷ names) name up (inr h) = nat_list_cmp_total.trans low next name up.0 (behind next names name up.1 h)

pub less_differs : (a b : List ℕ) → slice_cmp nat_cmp a b ≡ Less → a ≢ b
less_differs a b less same = let level : slice_cmp nat_cmp a b ≡ Equal = ap (slice_cmp nat_cmp a) (sym same) ∙ tied_itself nat_list_cmp_total a in cc

pub not_behind : (name : List ℕ) (names : List (List ℕ)) → IsRisingBehind (Some name) names → Has name names → ⊥
not_behind name names up h = less_differs name name (behind name names name up h) refl

-- ---- rising lists of the same items are one

heads : {X : Type 0} (key : X → List ℕ) (x y : X) (xs ys : List X) → IsRisingBehind (Some (key x)) (map key xs) → IsRisingBehind (Some (key y)) (map key ys) → Has x (y ∷ ys) → Has y (x ∷ xs) → x ≡ y
heads key x y xs ys rx ry (inl e) h = sym e
heads key x y xs ys rx ry (inr k) (inl e) = e
heads key x y xs ys rx ry (inr k) (inr j) =
    let one = behind (key x) (map key xs) (key y) rx (has_map key y xs j) in
    let two = behind (key y) (map key ys) (key x) ry (has_map key x ys k) in
    absurd (less_differs (key x) (key x) (nat_list_cmp_total.trans (key x) (key y) (key x) one two) refl)

in_tail : {X : Type 0} (key : X → List ℕ) (x y z : X) (xs ys : List X) → IsRisingBehind (Some (key x)) (map key xs) → x ≡ y → Has z xs → Has z (y ∷ ys) → Has z ys
in_tail key x y z xs ys rx same h (inl e) = absurd (less_differs (key x) (key z) (behind (key x) (map key xs) (key z) rx (has_map key z xs h)) (ap key (same ∙ e)))
in_tail key x y z xs ys rx same h (inr k) = k

one_behind : {X : Type 0} (key : X → List ℕ) (before before' : Option (List ℕ)) (xs ys : List X) → IsRisingBehind before (map key xs) → IsRisingBehind before' (map key ys) → ((x : X) → Has x xs → Has x ys) → ((x : X) → Has x ys → Has x xs) → xs ≡ ys
one_behind key before before' [] [] rx ry one two = refl
one_behind key before before' [] (y ∷ ys) rx ry one two = absurd (two y (inl refl))
one_behind key before before' (x ∷ xs) [] rx ry one two = absurd (one x (inl refl))
one_behind {X} key before before' (x ∷ xs) (y ∷ ys) rx ry one two =
    let e = heads key x y xs ys rx.1 ry.1 (one x (inl refl)) (two y (inl refl)) in
    let tails = one_behind key (Some (key x)) (Some (key y)) xs ys rx.1 ry.1
    (λ z h. in_tail key x y z xs ys rx.1 e h (one z (inr h)))
    (λ z h. in_tail key y x z ys xs ry.1 (sym e) h (two z (inr h))) in
    ap (λ (z : X). z ∷ xs) e ∙ ap (λ (zs : List X). y ∷ zs) tails

pub one_rising : {X : Type 0} (key : X → List ℕ) (xs ys : List X) → IsRising (map key xs) → IsRising (map key ys) → ((x : X) → Contains xs x ↔ Contains ys x) → xs ≡ ys
one_rising key xs ys one two same = one_behind key None None xs ys one two (λ x h. has_by x ys ((same x).0 (contains_by x xs h))) (λ x h. has_by x xs ((same x).1 (contains_by x ys h)))
