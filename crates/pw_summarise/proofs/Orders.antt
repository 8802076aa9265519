-- The ordered form of a list: how it is made, and that there is one.
use Rattle.std.proofs.Common.{◌≡◌, ◌≢◌, ◌⊎◌, ℕ, false, List, [], ◌∷◌, ◌++◌, map, sym, ap, subst, ◌∙◌, refl, inl, inr}
use Rattle.std.specs.Prelude.{Contains, Option, Some, None}
use Rattle.std.specs.List.{AllByRecursion, IsDistinct, flat_map}
use Rattle.std.specs.List.Retain.{IsFiltered, DiffersFromLast}
use Rattle.std.specs.List.Sorted.{IsPermutation, IsSortedBy, IsSorted, IsStrictlySortedBy}
use Rattle.std.specs.Str.{bytes_eq}
use Rattle.std.specs.Ordering.{nat_cmp, is_lt}
use Rattle.std.specs.Cmp.Lexicographic.{slice_cmp, texts_ties}
use Rattle.std.specs.declared.cmp.Ordering.TheVariants.{Less}
use Rattle.std.proofs.lemmas.Cmp.{nat_list_cmp_total, nat_list_eq_equiv}
use Rattle.std.proofs.lemmas.Slice.Eq.{bytes_eq-Decides}
use Rattle.std.proofs.lemmas.List.{map-id}
use Rattle.std.proofs.lemmas.List.Concat.{flat_map-cons}
use Rattle.std.proofs.lemmas.List.Filters.{dedup_is}
use Rattle.std.proofs.lemmas.List.Kept.{Contains-dedup, Contains-from_dedup, IsStrictlySortedBy-dedup}
use Rattle.std.proofs.lemmas.List.Sorted.{IsPermutation-sym, Contains-permutation}
use Rattle.pw_fields.specs.FieldNames.{IsTableOf}
use Rattle.pw_flow.specs.ValidFlow.{AreDistinct}
use Rattle.pw_files.specs.Rising.{IsRising, IsRisingBehind, IsAbove}
use Rattle.pw_files.proofs.Standing.{contains_by, has_by, has_map, has_map_back, has_flat, has_flat_back}
use Rattle.pw_files.proofs.ByteOrder.{differ, sorted_rises, strictly_rising, table_rises, one_rising}
use Rattle.pw_summarise.specs.Summarises.{IsOrdered}

-- ---- keys that differ

each_differs : (name : List ℕ) (names : List (List ℕ)) → AllByRecursion (λ other. other ≢ name) names → AllByRecursion (λ other. bytes_eq name other ≡ false) names
each_differs name [] all = tt
each_differs name (other ∷ names) all = (differ name other (λ e. all.0 (sym e)), each_differs name names all.1)

distinct : (names : List (List ℕ)) → AreDistinct names → IsDistinct bytes_eq names
unfolding IsDistinct
distinct [] all = tt
distinct (name ∷ names) all = (each_differs name names all.0, distinct names all.1)

-- ---- a list that is sorted

pub ordered_by_sort : {R X : Type 0} (view : R → X) (key : X → List ℕ) (source : List X) (chosen sorted : List R) → map view chosen ≡ source → AreDistinct (map key source) → IsPermutation chosen sorted
    → IsSortedBy (λ a b. is_lt (slice_cmp nat_cmp (key (view a)) (key (view b)))) sorted → IsOrdered key source (map view sorted)
ordered_by_sort view key source chosen sorted same differs moved up =
    let rises = sorted_rises view key source chosen sorted same (distinct (map key source) differs) moved up in
    record { rising = rises.0; of = rises.1 }

-- ---- a list that is sorted and freed of repeats

pub freed_ordered : (source sorted freed : List (List ℕ)) → IsPermutation source sorted → IsSorted (slice_cmp nat_cmp) sorted → IsFiltered (DiffersFromLast bytes_eq) [] sorted freed → IsOrdered (λ text. text) source freed
freed_ordered source sorted freed moved up left =
    let is = dedup_is bytes_eq sorted freed left in
    record {
      rising = subst IsRising (sym (map-id freed)) (strictly_rising freed (subst (IsStrictlySortedBy (slice_cmp nat_cmp)) (sym is) (IsStrictlySortedBy-dedup nat_list_cmp_total texts_ties sorted up)));
      of = λ text. (
        λ h. Contains-permutation sorted source text (IsPermutation-sym source sorted moved) (Contains-from_dedup bytes_eq sorted text (subst (λ (texts : List (List ℕ)). Contains texts text) is h)),
        λ h. subst (λ (texts : List (List ℕ)). Contains texts text) (sym is) (Contains-dedup nat_list_eq_equiv (λ x y. (bytes_eq-Decides x y).0) sorted text (Contains-permutation source sorted text moved h)),
      );
    }

-- ---- a table of names

pub table_ordered : (names source : List (List ℕ)) → IsTableOf names source → IsOrdered (λ name. name) source names
table_ordered names source table = record { rising = subst IsRising (sym (map-id names)) (table_rises names table.rising); of = table.of }

-- ---- what some names of a table become, one item each

-- a name becomes nothing, or one item that has it
abbrev pub IsPick : {X : Type 0} → (X → List ℕ) → List ℕ → List X → Type 0
IsPick {X} key name xs = (xs ≡ []) ⊎ ((x : X) × (xs ≡ x ∷ []) × (key x ≡ name))

above_two : (before : Option (List ℕ)) (name next : List ℕ) → IsAbove before name → slice_cmp nat_cmp name next ≡ Less → IsAbove before next
above_two None name next above less = tt
above_two (Some before) name next above less = nat_list_cmp_total.trans before name next above less

lower : (before : Option (List ℕ)) (name : List ℕ) (names : List (List ℕ)) → IsAbove before name → IsRisingBehind (Some name) names → IsRisingBehind before names
lower before name [] above up = tt
lower before name (next ∷ names) above up = (above_two before name next above up.0, up.1)

pick_rises : {X : Type 0} (key : X → List ℕ) (before : Option (List ℕ)) (name : List ℕ) (picked xs : List X) → IsPick key name picked → IsAbove before name → IsRisingBehind (Some name) (map key xs) → IsRisingBehind before (map key (picked ++ xs))
pick_rises {X} key before name picked xs (inl e) above up = subst (λ (ys : List X). IsRisingBehind before (map key (ys ++ xs))) (sym e) (lower before name (map key xs) above up)
pick_rises {X} key before name picked xs (inr one) above up =
    subst (λ (ys : List X). IsRisingBehind before (map key (ys ++ xs))) (sym one.1) (subst (IsAbove before) (sym one.2) above, subst (λ n. IsRisingBehind (Some n) (map key xs)) (sym one.2) up)

picked_rises : {X : Type 0} (key : X → List ℕ) (pick : List ℕ → List X) → ((name : List ℕ) → IsPick key name (pick name)) → (before : Option (List ℕ)) (names : List (List ℕ)) → IsRisingBehind before names → IsRisingBehind before (map key (flat_map pick names))
picked_rises key pick is before [] up = tt
picked_rises {X} key pick is before (name ∷ names) up =
    subst (λ (xs : List X). IsRisingBehind before (map key xs)) (sym (flat_map-cons pick name names)) (pick_rises key before name (pick name) (flat_map pick names) (is name) up.0 (picked_rises key pick is (Some name) names up.1))

moved_over : {X : Type 0} (pick : List ℕ → List X) (one other : List (List ℕ)) → ((name : List ℕ) → Contains one name → Contains other name) → (x : X) → Contains (flat_map pick one) x → Contains (flat_map pick other) x
moved_over pick one other over x h =
    let p = has_flat_back pick x one (has_by x (flat_map pick one) h) in
    contains_by x (flat_map pick other) (has_flat pick p.0 x other (has_by p.0 other (over p.0 (contains_by p.0 one p.1))) p.2)

pub picked_ordered : {X : Type 0} (key : X → List ℕ) (pick : List ℕ → List X) → ((name : List ℕ) → IsPick key name (pick name)) → (names source : List (List ℕ)) → IsTableOf names source → IsOrdered key (flat_map pick source) (flat_map pick names)
picked_ordered key pick is names source table = record {
  rising = picked_rises key pick is None names (table_rises names table.rising);
  of = λ x. (moved_over pick names source (λ name. (table.of name).0) x, moved_over pick source names (λ name. (table.of name).1) x);
}

pub flat_same : {X : Type 0} (one other : List ℕ → List X) → ((name : List ℕ) → one name ≡ other name) → (names : List (List ℕ)) → flat_map one names ≡ flat_map other names
flat_same one other same [] = refl
flat_same {X} one other same (name ∷ names) =
    flat_map-cons one name names ∙ ap (λ (xs : List X). xs ++ flat_map one names) (same name) ∙ ap (λ (xs : List X). other name ++ xs) (flat_same one other same names) ∙ sym (flat_map-cons other name names)

-- ---- items that become others with the same keys

same_keys : {X Y : Type 0} (key : X → List ℕ) (other : Y → List ℕ) (h : X → Y) → ((x : X) → other (h x) ≡ key x) → (xs : List X) → map other (map h xs) ≡ map key xs
same_keys key other h same [] = refl
same_keys key other h same (x ∷ xs) = ap (λ (k : List ℕ). k ∷ map other (map h xs)) (same x) ∙ ap (λ (ks : List (List ℕ)). key x ∷ ks) (same_keys key other h same xs)

mapped_over : {X Y : Type 0} (h : X → Y) (one other : List X) → ((x : X) → Contains one x → Contains other x) → (y : Y) → Contains (map h one) y → Contains (map h other) y
mapped_over h one other over y k =
    let p = has_map_back h y one (has_by y (map h one) k) in
    subst (Contains (map h other)) p.2 (contains_by (h p.0) (map h other) (has_map h p.0 other (has_by p.0 other (over p.0 (contains_by p.0 one p.1)))))

pub ordered_map : {X Y : Type 0} (key : X → List ℕ) (other : Y → List ℕ) (h : X → Y) → ((x : X) → other (h x) ≡ key x) → (source xs : List X) → IsOrdered key source xs → IsOrdered other (map h source) (map h xs)
ordered_map key other h same source xs is = record {
  rising = subst IsRising (sym (same_keys key other h same xs)) is.rising;
  of = λ y. (mapped_over h xs source (λ x. (is.of x).0) y, mapped_over h source xs (λ x. (is.of x).1) y);
}

-- the keys of an ordered list are those of its source
pub keys_over : {X : Type 0} (key : X → List ℕ) (source xs : List X) → IsOrdered key source xs → (k : List ℕ) → Contains (map key xs) k → Contains (map key source) k
keys_over key source xs is = mapped_over key xs source (λ x. (is.of x).0)

pub keys_back : {X : Type 0} (key : X → List ℕ) (source xs : List X) → IsOrdered key source xs → (k : List ℕ) → Contains (map key source) k → Contains (map key xs) k
keys_back key source xs is = mapped_over key source xs (λ x. (is.of x).1)

-- ---- a source has one ordered list

pub one_ordered : {X : Type 0} (key : X → List ℕ) (source xs ys : List X) → IsOrdered key source xs → IsOrdered key source ys → xs ≡ ys
one_ordered key source xs ys a b = one_rising key xs ys a.rising b.rising (λ x. (λ h. (b.of x).1 ((a.of x).0 h), λ h. (a.of x).1 ((b.of x).0 h)))
