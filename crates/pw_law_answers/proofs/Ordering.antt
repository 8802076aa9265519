-- Each list has an ordered form, if items with one key are one.
use Rattle.std.proofs.Common.{◌≡◌, ◌⊎◌, ℕ, suc, ◌<◌, ◌≤◌, List, [], ◌∷◌, length, map, refl, sym, ap, subst, ◌∙◌, arith, inl, inr}
use Rattle.std.specs.Prelude.{Contains, Option, Some, None, ◌↔◌}
use Rattle.std.specs.List.Sorted.{IsStrictlyIncreasing}
use Rattle.std.specs.Ordering.{nat_cmp, is_eq, ordering_reverse}
use Rattle.std.specs.Cmp.Lexicographic.{slice_cmp, texts_ties}
use Rattle.std.specs.declared.cmp.Ordering.{Ordering}
use Rattle.std.specs.declared.cmp.Ordering.TheVariants.{Less, Equal, Greater}
use Rattle.std.proofs.lemmas.Bool.{cases_eq, cases_lt}
use Rattle.std.proofs.lemmas.Cmp.{nat_list_cmp_total}
use Rattle.std.proofs.lemmas.List.{map-id}
use Rattle.std.proofs.lemmas.Slice.Eq.{bytes_eq-Decides}
use Rattle.pw_value.specs.Names.{IsNameLength}
use Rattle.pw_fields.specs.FieldNames.{IsRisingFrom, IsTableOf}
use Rattle.pw_files.specs.Rising.{IsAbove, IsRising, IsRisingBehind}
use Rattle.pw_files.proofs.Standing.{Has, contains_by, has_by, each_by, has_each}
use Rattle.pw_summarise.specs.Summarises.{IsOrdered}
use Rattle.pw_graph.proofs.Members.{Ups, increasing}

-- ---- one item more

same_key : (a b : List ℕ) → slice_cmp nat_cmp a b ≡ Equal → a ≡ b
same_key a b e = (bytes_eq-Decides a b).0 (texts_ties a b ∙ ap is_eq e)

turned : (a b : List ℕ) → slice_cmp nat_cmp a b ≡ Greater → slice_cmp nat_cmp b a ≡ Less
turned a b e = nat_list_cmp_total.antisymm b a ∙ ap ordering_reverse e

-- a rising list with one item more
record Put {X : Type 0} (key : X → List ℕ) (before : Option (List ℕ)) (x : X) (xs : List X) : Type 0 where
  list : List X
  rising : IsRisingBehind before (map key list)
  there : Has x list
  kept : (y : X) → Has y xs → Has y list
  only : (y : X) → Has y list → (x ≡ y) ⊎ Has y xs
  short : length list ≤ suc (length xs)

module _ {X : Type 0} (key : X → List ℕ) where
  put : (before : Option (List ℕ)) (x : X) (xs : List X) → IsAbove before (key x) → IsRisingBehind before (map key xs) → ((y : X) → Has y xs → key x ≡ key y → x ≡ y) → Put key before x xs
  put before x [] above up one = record { list = x ∷ []; rising = (above, tt); there = inl refl; kept = λ y h. absurd h; only = λ y h. h; short = omega arith }
  put before x (z ∷ xs) above up one = by (slice_cmp nat_cmp (key x) (key z)) refl (λ behind. put (Some (key z)) x xs behind up.1 (λ y h. one y (inr h)))
    where
      by : (o : Ordering) → slice_cmp nat_cmp (key x) (key z) ≡ o → (IsAbove (Some (key z)) (key x) → Put key (Some (key z)) x xs) → Put key before x (z ∷ xs)
      by Less e later = record { list = x ∷ z ∷ xs; rising = (above, (e, up.1)); there = inl refl; kept = λ y h. inr h; only = λ y h. h; short = omega arith }
      by Equal e later = record { list = z ∷ xs; rising = up; there = inl (sym (one z (inl refl) (same_key (key x) (key z) e))); kept = λ y h. h; only = λ y h. inr h; short = omega arith }
      by Greater e later =
          let p = later (turned (key x) (key z) e) in record {
            list = z ∷ p.list;
            rising = (up.0, p.rising);
            there = inr p.there;
            kept = λ y h. elim h [ inl same ↦ inl same | inr k ↦ inr (p.kept y k) ];
            only = λ y h. elim h [ inl same ↦ inr (inl same) | inr k ↦ elim (p.only y k) [ inl same ↦ inl same | inr j ↦ inr (inr j) ] ];
            short = (let few = p.short in omega (arith, few));
          }

  -- ---- the ordered form

  record Sorted (xs : List X) : Type 0 where
    list : List X
    rising : IsRising (map key list)
    there : (y : X) → Has y xs → Has y list
    only : (y : X) → Has y list → Has y xs
    short : length list ≤ length xs

  sorted : (xs : List X) → ((x y : X) → Has x xs → Has y xs → key x ≡ key y → x ≡ y) → Sorted xs
  sorted [] one = record { list = []; rising = tt; there = λ y h. h; only = λ y h. h; short = omega arith }
  sorted (x ∷ xs) one =
      let s = sorted xs (λ y z h k. one y z (inr h) (inr k)) in
      let p = put None x s.list tt s.rising (λ y h. one x y (inl refl) (inr (s.only y h))) in record {
        list = p.list;
        rising = p.rising;
        there = λ y h. elim h [ inl same ↦ subst (λ z. Has z p.list) same p.there | inr k ↦ p.kept y (s.there y k) ];
        only = λ y h. elim (p.only y h) [ inl same ↦ inl same | inr k ↦ inr (s.only y k) ];
        short = (let one_more = p.short in let few = s.short in omega (arith, one_more, few));
      }

  pub ordered : (xs : List X) → ((x y : X) → Has x xs → Has y xs → key x ≡ key y → x ≡ y) → (ys : List X) × IsOrdered key xs ys × (length ys ≤ length xs)
  ordered xs one =
      let s = sorted xs one in
      (s.list, record { rising = s.rising; of = λ y. (λ h. contains_by y xs (s.only y (has_by y s.list h)), λ h. contains_by y s.list (s.there y (has_by y xs h))) }, s.short)

-- names are their own keys
pub ordered_names : (names : List (List ℕ)) → (ordered : List (List ℕ)) × IsOrdered (λ name. name) names ordered
ordered_names names = let o = ordered (λ (name : List ℕ). name) names (λ x y h k e. e) in (o.0, o.1)

-- ---- tables of names

long_from : (before : List ℕ) (names : List (List ℕ)) → IsRisingBehind (Some before) names → ((name : List ℕ) → Has name names → IsNameLength (length name)) → IsRisingFrom before names
long_from before [] up long = tt
long_from before (name ∷ names) up long = (long name (inl refl), up.0, long_from name names up.1 (λ other h. long other (inr h)))

some_text : (name : List ℕ) → IsNameLength (length name) → slice_cmp nat_cmp [] name ≡ Less
some_text [] long = let low = long.0 in absurd (omega (arith, low))
some_text (b ∷ name) long = refl

table_from : (names : List (List ℕ)) → IsRising names → ((name : List ℕ) → Has name names → IsNameLength (length name)) → IsRisingFrom [] names
table_from [] up long = tt
table_from (name ∷ names) up long = (long name (inl refl), some_text name (long name (inl refl)), long_from name names up.1 (λ other h. long other (inr h)))

pub table_exists : (used : List (List ℕ)) → ((name : List ℕ) → Has name used → IsNameLength (length name)) → (names : List (List ℕ)) × IsTableOf names used
table_exists used long =
    let o = ordered_names used in (
      o.0,
      record {
        rising = table_from o.0 (subst IsRising (map-id o.0) o.1.rising) (λ name h. long name (has_by name used ((o.1.of name).0 (contains_by name o.0 h))));
        of = o.1.of;
      },
    )

-- ---- numbers that rise

record PutNumber (x : ℕ) (xs : List ℕ) : Type 0 where
  list : List ℕ
  ups : Ups list
  there : Has x list
  kept : (y : ℕ) → Has y xs → Has y list
  only : (y : ℕ) → Has y list → (x ≡ y) ⊎ Has y xs

put_number : (x : ℕ) (xs : List ℕ) → Ups xs → PutNumber x xs
put_number x [] ups = record { list = x ∷ []; ups = (tt, tt); there = inl refl; kept = λ y h. absurd h; only = λ y h. h }
put_number x (z ∷ xs) ups = elim (cases_lt x z) [
  | inl lt ↦ record {
    list = x ∷ z ∷ xs;
    ups = ((lt, each_by (λ y. x < y) xs (λ y h. let more = has_each (λ w. z < w) xs y ups.0 h in omega (arith, lt, more))), ups);
    there = inl refl;
    kept = λ y h. inr h;
    only = λ y h. h;
  }
  | inr le ↦ elim (cases_eq x z) [
    | inl same ↦ record { list = z ∷ xs; ups = ups; there = inl (sym same); kept = λ y h. h; only = λ y h. inr h }
    | inr other ↦
        let p = put_number x xs ups.1 in record {
          list = z ∷ p.list;
          ups = (each_by (λ y. z < y) p.list (λ y h. elim (p.only y h) [ inl same ↦ omega (arith, le, other, same) | inr k ↦ has_each (λ w. z < w) xs y ups.0 k ]), p.ups);
          there = inr p.there;
          kept = λ y h. elim h [ inl same ↦ inl same | inr k ↦ inr (p.kept y k) ];
          only = λ y h. elim h [ inl same ↦ inr (inl same) | inr k ↦ elim (p.only y k) [ inl same ↦ inl same | inr j ↦ inr (inr j) ] ];
        }
  ]
]

record SortedNumbers (xs : List ℕ) : Type 0 where
  list : List ℕ
  ups : Ups list
  there : (y : ℕ) → Has y xs → Has y list
  only : (y : ℕ) → Has y list → Has y xs

sorted_numbers : (xs : List ℕ) → SortedNumbers xs
sorted_numbers [] = record { list = []; ups = tt; there = λ y h. h; only = λ y h. h }
sorted_numbers (x ∷ xs) =
    let s = sorted_numbers xs in
    let p = put_number x s.list s.ups in record {
      list = p.list;
      ups = p.ups;
      there = λ y h. elim h [ inl same ↦ subst (λ z. Has z p.list) same p.there | inr k ↦ p.kept y (s.there y k) ];
      only = λ y h. elim (p.only y h) [ inl same ↦ inl same | inr k ↦ inr (s.only y k) ];
    }

pub increasing_numbers : (xs : List ℕ) → (ys : List ℕ) × IsStrictlyIncreasing ys × ((y : ℕ) → Contains ys y ↔ Contains xs y)
increasing_numbers xs =
    let s = sorted_numbers xs in
    (s.list, increasing s.list s.ups, λ y. (λ h. contains_by y xs (s.only y (has_by y s.list h)), λ h. contains_by y s.list (s.there y (has_by y xs h))))
