-- Names by their places in byte order.
use Rattle.std.proofs.Common.{◌≡◌, ℕ, zero, suc, ◌<◌, Bool, true, false, List, [], ◌∷◌, length, map, get_or, refl, sym, ap, subst, ◌∙◌, arith, inl, inr}
use Rattle.std.specs.Prelude.{Option, Some, None, slice_get, nat_lt, if◌then◌else◌}
use Rattle.std.specs.Ordering.{nat_cmp}
use Rattle.std.specs.Cmp.Lexicographic.{slice_cmp}
use Rattle.std.specs.declared.cmp.Ordering.TheVariants.{Less}
use Rattle.std.proofs.lemmas.Bool.{cases_lt, cases_eq, ltb-true, lt-ltb}
use Rattle.std.proofs.lemmas.Cmp.{nat_list_cmp_total}
use Rattle.std.proofs.lemmas.Option.{slice_get-get_or, slice_get_within, get_or_from_slice_get}
use Rattle.pw_fields.specs.FieldNames.{place_of, IsRisingFrom}
use Rattle.pw_fields.proofs.NameLaws.{place-get, get-place}
use Rattle.pw_files.specs.Rising.{IsRising, IsRisingBehind}
use Rattle.pw_files.proofs.Standing.{has_map}
use Rattle.pw_files.proofs.ByteOrder.{behind, less_differs}
use Rattle.pw_graph.specs.Making.{place_in}
use Rattle.pw_graph.proofs.Lists.{has_at}

-- ---- rising lists

-- what stands later is above
pub later_above : {X : Type 0} (key : X → List ℕ) (before : Option (List ℕ)) (xs : List X) → IsRisingBehind before (map key xs) → (i j : ℕ) (a b : X) → i < j → slice_get xs i ≡ Some a → slice_get xs j ≡ Some b → slice_cmp nat_cmp (key a) (key b) ≡ Less
later_above key before [] up i j a b lt one two = absurd cc
later_above key before (x ∷ xs) up i zero a b lt one two = absurd (omega arith)
later_above key before (x ∷ xs) up zero (suc j) a b lt one two =
    let same : x ≡ a = cc in
    subst (λ y. slice_cmp nat_cmp (key y) (key b) ≡ Less) same (behind (key x) (map key xs) (key b) up.1 (has_map key b xs (has_at xs j b two)))
later_above key before (x ∷ xs) up (suc i) (suc j) a b lt one two = later_above key (Some (key x)) xs up.1 i j a b (omega arith) one two

-- one key stands at one place
pub one_place : {X : Type 0} (key : X → List ℕ) (xs : List X) → IsRising (map key xs) → (i j : ℕ) (a b : X) → slice_get xs i ≡ Some a → slice_get xs j ≡ Some b → key a ≡ key b → i ≡ j
one_place key xs up i j a b one two same = elim (cases_lt i j) [
  | inl lt ↦ absurd (less_differs (key a) (key b) (later_above key None xs up i j a b lt one two) same)
  | inr le ↦ elim (cases_lt j i) [
    | inl lt ↦ absurd (less_differs (key b) (key a) (later_above key None xs up j i b a lt two one) (sym same))
    | inr ge ↦ omega arith
  ]
]

-- the place of a lesser key is lesser
pub lesser_place : {X : Type 0} (key : X → List ℕ) (xs : List X) → IsRising (map key xs) → (i j : ℕ) (a b : X) → slice_get xs i ≡ Some a → slice_get xs j ≡ Some b → slice_cmp nat_cmp (key a) (key b) ≡ Less → i < j
lesser_place key xs up i j a b one two less = elim (cases_lt i j) [
  | inl lt ↦ lt
  | inr le ↦ elim (cases_eq i j) [
    | inl same ↦
        let there : slice_get xs i ≡ Some b = subst (λ k. slice_get xs k ≡ Some b) (sym same) two in
        let ab : Some a ≡ Some b = sym one ∙ there in
        let e : a ≡ b = cc in
        absurd (less_differs (key a) (key b) less (ap key e))
    | inr other ↦
        let lt : j < i = omega arith in
        absurd (less_differs (key a) (key a) (nat_list_cmp_total.trans (key a) (key b) (key a) less (later_above key None xs up j i b a lt two one)) refl)
  ]
]

-- ---- the place of a name

place_some : (b : Bool) (p i : ℕ) → (if b then Some p else None) ≡ Some i → (b ≡ true) × (p ≡ i)
place_some true p i e = (refl, cc)
place_some false p i e = absurd cc

lt_by : (m n : ℕ) (b : Bool) → nat_lt m n ≡ b → b ≡ true → m < n
lt_by m n b e on = ltb-true m n (e ∙ on)

pub name_at_place : (names : List (List ℕ)) (name : List ℕ) (i : ℕ) → place_in names name ≡ Some i → slice_get names i ≡ Some name
name_at_place names name i e =
    let p = place_some (nat_lt (place_of names name) (length names)) (place_of names name) i e in
    let lt : place_of names name < length names = lt_by (place_of names name) (length names) (nat_lt (place_of names name) (length names)) refl p.0 in
    subst (λ k. slice_get names k ≡ Some name) p.1 (slice_get-get_or names (place_of names name) name lt ∙ ap Some (get-place names name name lt))

lt_true : (m n : ℕ) → m < n → nat_lt m n ≡ true
lt_true m n lt = lt-ltb m n lt

pub place_of_name : (names : List (List ℕ)) (name : List ℕ) (i : ℕ) → IsRisingFrom [] names → slice_get names i ≡ Some name → place_in names name ≡ Some i
place_of_name names name i rising e =
    let lt : i < length names = slice_get_within names i name e in
    let at : get_or names i [] ≡ name = get_or_from_slice_get names i name [] e in
    let place : place_of names name ≡ i = ap (place_of names) (sym at) ∙ place-get [] names rising i [] lt in
    rw (place, lt_true i (length names) lt) refl
