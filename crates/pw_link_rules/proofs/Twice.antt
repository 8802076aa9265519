-- Names that are defined twice, by the places of sorted definitions.
use Rattle.std.proofs.Common.{◌≡◌, ◌≢◌, ℕ, ◌+◌, ◌-◌, ◌<◌, ◌≤◌, List, length, refl, sym, ap, subst, ◌∙◌, arith, inl, inr}
use Rattle.std.specs.Prelude.{Some, slice_get}
use Rattle.std.specs.List.Sorted.{IsPermutation}
use Rattle.std.proofs.lemmas.Bool.{cases_lt}
use Rattle.std.proofs.lemmas.List.Sorted.{IsPermutation-sym}
use Rattle.pw_value.specs.declared.fault.LinkFault.{LinkFault}
use Rattle.pw_value.specs.declared.fault.LinkFault.TheVariants.{Duplicate}
use Rattle.std.proofs.lemmas.Bool.{cases_eq}
use Rattle.pw_value.specs.ProgramNames.{IsOrdinary}
use Rattle.pw_link_rules.specs.declared.interface.Interface.{Interface}
use Rattle.pw_link_rules.specs.Linking.{definitions, IsDefinedTwice, IsLeastPair, Fails, defined_once}
use Rattle.pw_link_rules.specs.Entries.{IsAgain, Two, AreFirst, AreNone}
use Rattle.pw_link_rules.proofs.Sorted.{IsSortedAs, one_item, get_some, some_at, before_at, up_at, up_both, Up, least_any, none_any}
use Rattle.pw_link_rules.proofs.Moved.{moved, places_by, get_at}

-- no definition of the same name follows the one at k
abbrev pub IsOther : List (List ℕ × List ℕ) → ℕ → Type 0
IsOther ds k = (a b : List ℕ × List ℕ) → slice_get ds k ≡ Some a → slice_get ds (k + 1) ≡ Some b → ¬ IsAgain a b

abbrev itself : List ℕ × List ℕ → List ℕ × List ℕ
itself d = d

again_same : (a b : List ℕ × List ℕ) → IsAgain a b → a.0 ≡ b.0
again_same a b again = again.1

again_back : (a b : List ℕ × List ℕ) → IsAgain a b → IsAgain b a
again_back a b again = (subst IsOrdinary again.1 again.0, sym again.1)

-- of two definitions of a name the first is followed by one of the name
followed : (ds : List (List ℕ × List ℕ)) → IsSortedAs itself ds → (i j : ℕ) (t : Two IsAgain ds i j) → IsOther ds i → ⊥
followed ds sorted i j t other =
    let within = get_some ds j t.high t.high t.at_high in
    let next = some_at ds (i + 1) (omega (arith, within.0, t.rise)) in
    let one = up_at itself ds sorted i (i + 1) t.low next.0 (omega arith) t.at_low next.1 in
    let two = up_at itself ds sorted (i + 1) j next.0 t.high (omega (arith, t.rise)) next.1 t.at_high in
    other t.low next.0 t.at_low next.1 (t.wrong.0, up_both t.low.0 next.0.0 one.0 (subst (Up next.0.0) (sym t.wrong.1) two.0))

pub none_again : (ds : List (List ℕ × List ℕ)) → IsSortedAs itself ds → ((k : ℕ) → k + 1 < length ds → IsOther ds k) → AreNone IsAgain ds
none_again ds sorted others i j t =
    let within = get_some ds j t.high t.high t.at_high in
    followed ds sorted i j t (others i (omega (arith, within.0, t.rise)))

pub first_two : (ds : List (List ℕ × List ℕ)) → IsSortedAs itself ds → (i : ℕ) (a b : List ℕ × List ℕ) → slice_get ds i ≡ Some a → slice_get ds (i + 1) ≡ Some b → IsAgain a b → ((k : ℕ) → k < i → IsOther ds k) → AreFirst itself IsAgain ds i (i + 1)
first_two ds sorted i a b at_i at_next again others =
    let sooner : (p q : ℕ) → Two IsAgain ds p q → i ≤ p = λ p q t. elim (cases_lt p i) [ inl low ↦ absurd (followed ds sorted p q t (others p low)) | inr high ↦ high ] in
    record {
      two = record { low = a; high = b; rise = omega arith; at_low = at_i; at_high = at_next; wrong = again };
      sooner = λ p q t. before_at itself ds sorted i p a t.low (sooner p q t) at_i t.at_low;
      ends = λ p q t e. let le = sooner p q t in omega (arith, le, t.rise);
    }

pub defined_twice : (modules : List Interface) (ds : List (List ℕ × List ℕ)) (i j : ℕ) → IsPermutation (definitions modules) ds → IsSortedAs itself ds → (first : AreFirst itself IsAgain ds i j) → IsLeastPair (IsDefinedTwice modules) first.two.low.0 first.two.low.1 first.two.high.1
defined_twice modules ds i j perm sorted first =
    let t = first.two in
    let apart : i ≢ j = λ e. omega (arith, e, t.rise) in
    let back = moved ds (definitions modules) t.low t.high (IsPermutation-sym (definitions modules) ds perm) (places_by ds i j t.low t.high apart t.at_low t.at_high) in
    record {
      is = record {
        ordinary = t.wrong.0;
        place = back.one;
        again = back.other;
        apart = back.apart;
        at_place = get_at (definitions modules) back.one t.low back.at_one;
        at_again = get_at (definitions modules) back.other t.high back.at_other ∙ ap (λ (n : List ℕ). Some (n, t.high.1)) (sym t.wrong.1);
      };
      least = λ n a b h.
          let p = moved (definitions modules) ds (n, a) (n, b) perm (places_by (definitions modules) h.place h.again (n, a) (n, b) h.apart h.at_place h.at_again) in
          least_any itself IsAgain again_same again_back ds sorted i j first p.one p.other (n, a) (n, b) p.apart (get_at ds p.one (n, a) p.at_one) (get_at ds p.other (n, b) p.at_other) (h.ordinary, refl);
    }

pub none_twice : (modules : List Interface) (ds : List (List ℕ × List ℕ)) → IsPermutation (definitions modules) ds → AreNone IsAgain ds → (n a b : List ℕ) → IsDefinedTwice modules n a b → ⊥
none_twice modules ds perm none n a b h =
    let p = moved (definitions modules) ds (n, a) (n, b) perm (places_by (definitions modules) h.place h.again (n, a) (n, b) h.apart h.at_place h.at_again) in
    none_any IsAgain again_back ds none p.one p.other (n, a) (n, b) p.apart (get_at ds p.one (n, a) p.at_one) (get_at ds p.other (n, b) p.at_other) (h.ordinary, refl)

pub more_others : (ds : List (List ℕ × List ℕ)) (i : ℕ) (a b : List ℕ × List ℕ) → 1 ≤ i → slice_get ds (i - 1) ≡ Some a → slice_get ds i ≡ Some b → (IsAgain a b → ⊥) → ((k : ℕ) → k + 1 < i → IsOther ds k) → (k : ℕ) → k + 1 < i + 1 → IsOther ds k
more_others ds i a b some at_a at_b fine before k low =
    elim (cases_eq (k + 1) i) [
      | inl e ↦ λ c d at_c at_d again.
          let here : k ≡ i - 1 = omega (arith, e) in
          let c_is = one_item ds (i - 1) c a (subst (λ (n : ℕ). slice_get ds n ≡ Some c) here at_c) at_a in
          let d_is = one_item ds i d b (subst (λ (n : ℕ). slice_get ds n ≡ Some d) e at_d) at_b in
          fine (subst (IsAgain a) d_is (subst (λ (x : List ℕ × List ℕ). IsAgain x d) c_is again))
      | inr ne ↦ before k (omega (arith, low, ne))
    ]

pub first_two_at : (ds : List (List ℕ × List ℕ)) → IsSortedAs itself ds → (i : ℕ) (a b : List ℕ × List ℕ) → 1 ≤ i → slice_get ds (i - 1) ≡ Some a → slice_get ds i ≡ Some b → IsAgain a b → ((k : ℕ) → k + 1 < i → IsOther ds k) → AreFirst itself IsAgain ds (i - 1) (i - 1 + 1)
first_two_at ds sorted i a b some at_a at_b again before =
    let back : i ≡ i - 1 + 1 = omega arith in
    first_two ds sorted (i - 1) a b at_a (subst (λ (n : ℕ). slice_get ds n ≡ Some b) back at_b) again (λ k low. before k (omega (arith, low, some)))

pub told_twice : (modules : List Interface) (ds : List (List ℕ × List ℕ)) (i : ℕ) → IsPermutation (definitions modules) ds → IsSortedAs itself ds → (first : AreFirst itself IsAgain ds i (i + 1)) → (a b : List ℕ × List ℕ) → slice_get ds i ≡ Some a → slice_get ds (i + 1) ≡ Some b
    → (fault : LinkFault) → fault ≡ Duplicate a.0 a.1 b.1 → Fails defined_once modules fault
told_twice modules ds i perm sorted first a b at_a at_b fault e =
    let t = first.two in
    let a_is = one_item ds i a t.low at_a t.at_low in
    let b_is = one_item ds (i + 1) b t.high at_b t.at_high in
    (t.low.0, t.low.1, t.high.1, defined_twice modules ds i (i + 1) perm sorted first, e ∙ ap (λ (x : List ℕ × List ℕ). Duplicate x.0 x.1 b.1) a_is ∙ ap (λ (y : List ℕ × List ℕ). Duplicate t.low.0 t.low.1 y.1) b_is)
