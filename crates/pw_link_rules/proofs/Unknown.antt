-- Names that are used and defined nowhere, by the tables of both.
use Rattle.std.proofs.Common.{◌≡◌, ℕ, zero, suc, ◌+◌, Bool, true, false, ◌<◌, ◌≤◌, List, [], ◌∷◌, length, get_or, sym, ap, subst, ◌∙◌, arith, inl, inr}
use Rattle.std.specs.Prelude.{Option, Some, None, slice_get, Contains, is_some, IfSome, IfNone}
use Rattle.std.specs.Bool.{MatchBool}
use Rattle.pw_fields.specs.FieldNames.{place_of}
use Rattle.pw_fields.proofs.NameTables.{found_among}
use Rattle.pw_fields.proofs.NameLaws.{among_contains}
use Rattle.std.specs.Ordering.{nat_cmp, is_lt, ordering_reverse}
use Rattle.std.specs.Cmp.Lexicographic.{slice_cmp}
use Rattle.std.specs.declared.cmp.Ordering.TheVariants.{Less}
use Rattle.std.proofs.lemmas.Bool.{cases_lt, cases_eq}
use Rattle.std.proofs.lemmas.Cmp.{nat_list_cmp_total, tied_itself}
use Rattle.pw_fields.specs.FieldNames.{IsRisingFrom, IsTableOf}
use Rattle.pw_value.specs.ProgramNames.{IsOrdinary}
use Rattle.pw_fields.proofs.NameLaws.{above}
use Rattle.pw_link_rules.specs.declared.interface.Interface.{Interface}
use Rattle.pw_link_rules.specs.Linking.{used_names, defined_names, IsUndefined, IsLeastName}
use Rattle.pw_link_rules.proofs.Sorted.{Up, not_less, one_item, get_some, some_get}

-- a later name of a table is not below an earlier one
up_rising : (before : List ℕ) (names : List (List ℕ)) → IsRisingFrom before names → (i j : ℕ) (a b : List ℕ) → i ≤ j → slice_get names i ≡ Some a → slice_get names j ≡ Some b → Up a b
up_rising before [] rising i j a b le at_i at_j = absurd cc
up_rising before (x ∷ xs) rising zero zero a b le at_i at_j = let e : a ≡ b = cc in subst (Up a) e (ap is_lt (tied_itself nat_list_cmp_total a))
up_rising before (x ∷ xs) rising zero (suc j) a b le at_i at_j =
    let r = get_some xs j b b at_j in
    let same : x ≡ a = cc in
    let less : slice_cmp nat_cmp x (get_or xs j b) ≡ Less = above x xs rising.2 j b r.0 in
    let there : slice_cmp nat_cmp a b ≡ Less = subst (λ (y : List ℕ). slice_cmp nat_cmp a y ≡ Less) r.1 (subst (λ (y : List ℕ). slice_cmp nat_cmp y (get_or xs j b) ≡ Less) same less) in
    ap is_lt (nat_list_cmp_total.antisymm b a ∙ ap ordering_reverse there)
up_rising before (x ∷ xs) rising (suc i) zero a b le at_i at_j = absurd (omega (arith, le))
up_rising before (x ∷ xs) rising (suc i) (suc j) a b le at_i at_j = up_rising x xs rising.2 i j a b (omega (arith, le)) at_i at_j

pub undefined : (modules : List Interface) (used defined : List (List ℕ)) → IsTableOf used (used_names modules) → IsTableOf defined (defined_names modules) → (place : ℕ) (name : List ℕ) → slice_get used place ≡ Some name → IsOrdinary name → (Contains defined name → ⊥)
    → ((k : ℕ) (other : List ℕ) → k < place → slice_get used k ≡ Some other → IsOrdinary other → Contains defined other) → IsLeastName (IsUndefined modules) name
undefined modules used defined users definers place name at ordinary lacks earlier =
    let r = get_some used place name name at in
    record {
      is = record { ordinary = ordinary; used = (users.of name).0 (place, r.0, r.1); nowhere = λ h. lacks ((definers.of name).1 h) };
      least = λ other h.
          let c = (users.of other).1 h.used in
          let at_other = some_get used c.0 other c.1 (sym c.2) in
          elim (cases_lt c.0 place) [
            | inl low ↦ absurd (h.nowhere ((definers.of other).0 (earlier c.0 other low at_other h.ordinary)))
            | inr high ↦ not_less (slice_cmp nat_cmp other name) (up_rising [] used users.rising place c.0 name other high at at_other)
          ];
    }

pub all_known : (modules : List Interface) (used defined : List (List ℕ)) → IsTableOf used (used_names modules) → IsTableOf defined (defined_names modules) → ((k : ℕ) (name : List ℕ) → slice_get used k ≡ Some name → IsOrdinary name → Contains defined name) → (name : List ℕ) → IsUndefined modules name → ⊥
all_known modules used defined users definers known name h =
    let c = (users.of name).1 h.used in
    h.nowhere ((definers.of name).0 (known c.0 name (some_get used c.0 name c.1 (sym c.2)) h.ordinary))

pub known_by : (defined : List (List ℕ)) (name : List ℕ) (found : Option ℕ) (r : Bool) → r ≡ is_some found → IfSome found (λ i. (i < length defined) × (place_of defined name ≡ i)) → IfNone found (Contains defined name → ⊥) → IsOrdinary name
    → MatchBool r (IsOrdinary name → Contains defined name) (IsOrdinary name × (Contains defined name → ⊥))
known_by defined name (Some i) true e some none ordinary = λ o. among_contains defined name (found_among defined name (Some i) some none)
known_by defined name (Some i) false e some none ordinary = absurd cc
known_by defined name None true e some none ordinary = absurd cc
known_by defined name None false e some none ordinary = (ordinary, none)

pub known_more : (used defined : List (List ℕ)) (i : ℕ) (name : List ℕ) → slice_get used i ≡ Some name → (IsOrdinary name → Contains defined name) → ((k : ℕ) (other : List ℕ) → k < i → slice_get used k ≡ Some other → IsOrdinary other → Contains defined other)
    → (k : ℕ) (other : List ℕ) → k < i + 1 → slice_get used k ≡ Some other → IsOrdinary other → Contains defined other
known_more used defined i name at here before k other low at_k ordinary =
    elim (cases_eq k i) [
      | inl e ↦
          let same : name ≡ other = one_item used i name other at (subst (λ (n : ℕ). slice_get used n ≡ Some other) e at_k) in
          subst (Contains defined) same (here (subst IsOrdinary (sym same) ordinary))
      | inr ne ↦ before k other (omega (arith, low, ne)) at_k ordinary
    ]

pub when_true : (b : Bool) (P Q : Type 0) → MatchBool b P Q → b ≡ true → P
when_true true P Q m e = m
when_true false P Q m e = absurd cc

pub when_false : (b : Bool) (P Q : Type 0) → MatchBool b P Q → b ≡ false → Q
when_false true P Q m e = absurd cc
when_false false P Q m e = m
