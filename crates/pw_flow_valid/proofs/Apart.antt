-- Distinct names, one after the other.
use Rattle.std.proofs.Common.{◌≡◌, ℕ, ◌<◌, ◌≢◌, suc, Bool, true, false, List, [], ◌∷◌, ◌++◌, Option, None, Some, if◌then◌else◌, map, take, drop, length, get_or, refl, sym, ap, subst, ◌+◌, ◌∙◌, arith}
use Rattle.std.specs.List.{AllByRecursion}
use Rattle.std.specs.Borrow.{Bor}
use Rattle.std.specs.Option.{option_or, is_some}
use Rattle.std.proofs.Math.Seq.{split_at}
use Rattle.std.proofs.lemmas.Grind.{take_at_read}
use Rattle.std.proofs.lemmas.List.{map-append}
use Rattle.std.specs.Str.{bytes_eq}
use Rattle.std.proofs.lemmas.Slice.Eq.{bytes_eq-Decides}
use Rattle.pw_flow.specs.ValidFlow.{AreDistinct}
use Rattle.pw_scope.specs.Visible.{visible}

abbrev pub IsNone : List (List ℕ) → List ℕ → Type 0
IsNone names name = AllByRecursion (λ other. other ≢ name) names

-- the names met so far, as the names in scope keep them
abbrev pub scope_of : List (List ℕ) → List (List ℕ × Unit {0})
scope_of names = map (λ name. (name, tt)) names

none_of : (later own : Option (Unit {0})) → option_or later own ≡ None → (later ≡ None) × (own ≡ None)
none_of None None e = (refl, refl)
none_of None (Some u) e = absurd cc
none_of (Some u) own e = absurd cc

own : Bool → Option (Unit {0})
own b = if b then Some tt else None

other_at : (name first : List ℕ) (b : Bool) → bytes_eq name first ≡ b → own b ≡ None → first ≢ name
unfolding own
other_at name first true is e = absurd cc
other_at name first false is e = λ same. let t : bytes_eq name first ≡ true = (bytes_eq-Decides name first).1 (sym same) in cc

-- a name that is not visible is none of them
pub none_visible : (names : List (List ℕ)) (name : List ℕ) → visible (scope_of names) name ≡ None → IsNone names name
unfolding own
none_visible [] name e = tt
none_visible (first ∷ names) name e =
    let both = none_of (visible (scope_of names) name) (own (bytes_eq name first)) e in
    (other_at name first (bytes_eq name first) refl both.1, none_visible names name both.0)

own_none : (name first : List ℕ) (b : Bool) → bytes_eq name first ≡ b → first ≢ name → own b ≡ None
unfolding own
own_none name first true is other = absurd (other (sym ((bytes_eq-Decides name first).0 is)))
own_none name first false is other = refl

-- a name that is none of them is not visible
pub not_visible : (names : List (List ℕ)) (name : List ℕ) → IsNone names name → visible (scope_of names) name ≡ None
unfolding own
not_visible [] name none = refl
not_visible (first ∷ names) name none = rw (not_visible names name none.1) (own_none name first (bytes_eq name first) refl none.0)

-- ---- distinct names with one more behind them

none_apart : (first name : List ℕ) (names : List (List ℕ)) → IsNone names first → first ≢ name → IsNone (names ++ name ∷ []) first
none_apart first name [] none other = (λ same. other (sym same), tt)
none_apart first name (second ∷ names) none other = (none.0, none_apart first name names none.1 other)

pub one_more : (names : List (List ℕ)) (name : List ℕ) → AreDistinct names → IsNone names name → AreDistinct (names ++ name ∷ [])
one_more [] name distinct none = (tt, tt)
one_more (first ∷ names) name distinct none = (none_apart first name names distinct.0 none.0, one_more names name distinct.1 none.1)

-- among distinct names each is none of those before it
apart_from : (first name : List ℕ) (names later : List (List ℕ)) → IsNone (names ++ name ∷ later) first → first ≢ name
apart_from first name [] later none = λ same. none.0 (sym same)
apart_from first name (second ∷ names) later none = apart_from first name names later none.1

pub none_before : (names : List (List ℕ)) (name : List ℕ) (later : List (List ℕ)) → AreDistinct (names ++ name ∷ later) → IsNone names name
none_before [] name later distinct = tt
none_before (first ∷ names) name later distinct = (apart_from first name names later distinct.0, none_before names name later distinct.1)

-- ---- names that a loop goes over

abbrev pub named : List (Bor (List ℕ)) → List (List ℕ)
named names = map (λ name. name.now) names

cut_at : (names : List (Bor (List ℕ))) (i : ℕ) (d : Bor (List ℕ)) → i < length names → named names ≡ named (take i names) ++ (get_or names i d).now ∷ named (drop (suc i) names)
cut_at names i d lt = ap named (split_at names i d lt) ∙ map-append (λ name. name.now) (take i names) (get_or names i d ∷ drop (suc i) names)

with_next : (names : List (Bor (List ℕ))) (i : ℕ) (d : Bor (List ℕ)) → i < length names → named (take (i + 1) names) ≡ named (take i names) ++ (get_or names i d).now ∷ []
with_next names i d lt = ap named (take_at_read names i d lt).1 ∙ map-append (λ name. name.now) (take i names) (get_or names i d ∷ [])

none_if : (o : Option (Unit {0})) → is_some o ≡ false → o ≡ None
none_if None e = refl
none_if (Some u) e = absurd cc

-- a name that is visible stands twice
pub is_repeated : (names : List (Bor (List ℕ))) (i : ℕ) (d : Bor (List ℕ)) (met : List (List ℕ × Unit {0})) → i < length names → met ≡ scope_of (named (take i names)) → is_some (visible met (get_or names i d).now) ≡ true → AreDistinct (named names) → ⊥
is_repeated names i d met lt m some distinct =
    let name = (get_or names i d).now in
    let before = none_before (named (take i names)) name (named (drop (suc i) names)) (subst (λ (ns : List (List ℕ)). AreDistinct ns) (cut_at names i d lt) distinct) in
    let none = ap (λ (s : List (List ℕ × Unit {0})). visible s name) m ∙ not_visible (named (take i names)) name before in
    let t : false ≡ true = sym (ap is_some none) ∙ some in
    cc

-- a name that is not goes behind those that were met
pub is_met : (names : List (Bor (List ℕ))) (i : ℕ) (d : Bor (List ℕ)) (met new : List (List ℕ × Unit {0})) → i < length names → met ≡ scope_of (named (take i names)) → new ≡ met ++ ((get_or names i d).now, tt) ∷ [] → new ≡ scope_of (named (take (i + 1) names))
is_met names i d met new lt m e =
    let name = (get_or names i d).now in
    e ∙ ap (λ (s : List (List ℕ × Unit {0})). s ++ (name, tt) ∷ []) m ∙ sym (map-append (λ n. (n, tt)) (named (take i names)) (name ∷ [])) ∙ ap scope_of (sym (with_next names i d lt))

pub stay_apart : (names : List (Bor (List ℕ))) (i : ℕ) (d : Bor (List ℕ)) (met : List (List ℕ × Unit {0})) → i < length names → met ≡ scope_of (named (take i names)) → is_some (visible met (get_or names i d).now) ≡ false → AreDistinct (named (take i names)) → AreDistinct (named (take (i + 1) names))
stay_apart names i d met lt m none distinct =
    let name = (get_or names i d).now in
    let unseen = sym (ap (λ (s : List (List ℕ × Unit {0})). visible s name) m) ∙ none_if (visible met name) none in
    subst (λ (ns : List (List ℕ)). AreDistinct ns) (sym (with_next names i d lt)) (one_more (named (take i names)) name distinct (none_visible (named (take i names)) name unseen))
