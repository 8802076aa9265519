-- Locals in their places.
use Rattle.std.proofs.Common.{◌≡◌, ℕ, zero, suc, ◌+◌, ◌<◌, ◌≤◌, nat_lt, arith, drop, get_or, subst, Bool, true, false, if◌then◌else◌, List, [], ◌∷◌, length, replicate, refl, ap, ◌∙◌, sym}
use Rattle.std.proofs.lemmas.Bool.Decides.{nat_tests}
use Rattle.pw_types.specs.TypedTrees.{LocalValue}
use Rattle.pw_typed.specs.declared.tree.Local.{Local}
use Rattle.pw_typed.specs.Views.{view_locals}
use Rattle.pw_lower.specs.declared.place.LocalPlace.{LocalPlace}
use Rattle.pw_lower.specs.declared.place.LocalPlace.TheVariants.{Temp, Slot}
use Rattle.pw_lower.specs.Places.{has, places_from, temps_from}
use Rattle.pw_lower_places.specs.Marks.{marked_from, marked}
use Rattle.pw_lower_places.specs.Placing.{placed, kept_unless}

same_choice : (a b : Bool) (x y z u v w : List LocalPlace) → x ≡ u → y ≡ v → z ≡ w → (if a then (if b then x else y) else z) ≡ (if a then (if b then u else v) else w)
same_choice true true x y z u v w p q r = p
same_choice true false x y z u v w p q r = q
same_choice false b x y z u v w p q r = r

placed_from : (taken : List ℕ) (params k temp slot : ℕ) (locals : List LocalValue) → placed (marked_from k taken (replicate (length locals) false)) params k temp slot locals ≡ places_from taken params k temp slot locals
placed_from taken params k temp slot [] = refl
placed_from taken params k temp slot (local ∷ rest) =
    let marks = marked_from (k + 1) taken (replicate (length rest) false) in
    same_choice (kept_unless (has k taken) local) (nat_lt k params) (Temp k ∷ placed marks params (k + 1) temp slot rest) (Temp temp ∷ placed marks params (k + 1) (temp + 1) slot rest) (Slot slot ∷ placed marks params (k + 1) temp (slot + 1) rest) (Temp k ∷ places_from taken params (k + 1) temp slot rest) (Temp temp ∷ places_from taken params (k + 1) (temp + 1) slot rest) (Slot slot ∷ places_from taken params (k + 1) temp (slot + 1) rest) (ap (λ p. Temp k ∷ p) (placed_from taken params (k + 1) temp slot rest)) (ap (λ p. Temp temp ∷ p) (placed_from taken params (k + 1) (temp + 1) slot rest)) (ap (λ p. Slot slot ∷ p) (placed_from taken params (k + 1) temp (slot + 1) rest))

length_viewed : (locals : List Local) → length (view_locals locals) ≡ length locals
length_viewed [] = refl
length_viewed (local ∷ rest) = ap suc (length_viewed rest)

-- the places by marks are those by the locals that are marked
pub placed_marked : (taken : List ℕ) (params : ℕ) (locals : List Local) → placed (marked taken (replicate (length locals) false)) params 0 params 0 (view_locals locals) ≡ places_from taken params 0 params 0 (view_locals locals)
placed_marked taken params locals =
    ap (λ n. placed (marked taken (replicate n false)) params 0 params 0 (view_locals locals)) (sym (length_viewed locals))
    ∙ placed_from taken params 0 params 0 (view_locals locals)

-- ---- temporaries

chosen : (b : Bool) (t temps : ℕ) (rest : List LocalPlace) → nat_lt t temps ≡ b → temps ≤ temps_from temps rest → t + 1 ≤ temps_from (t + 1) rest → temps ≤ temps_from (if b then temps else t + 1) rest
chosen true t temps rest is same more = same
chosen false t temps rest is same more = grind (arith, nat_tests)

-- no place makes the temporaries fewer
pub temps_grow : (temps : ℕ) (places : List LocalPlace) → temps ≤ temps_from temps places
temps_grow temps [] = omega arith
temps_grow temps (Slot s ∷ rest) = temps_grow temps rest
temps_grow temps (Temp t ∷ rest) = chosen (nat_lt t temps) t temps rest refl (temps_grow temps rest) (temps_grow (t + 1) rest)

passed_by : (b : Bool) (n t temps : ℕ) (rest : List LocalPlace) → nat_lt t temps ≡ b → temps ≤ t → n ≤ t + 1 → n ≤ temps_from (if b then temps else t + 1) rest
passed_by true n t temps rest is past more = grind (arith, nat_tests)
passed_by false n t temps rest is past more = omega (arith, more, temps_grow (t + 1) rest)

-- a temporary past those so far makes them more
temps_passed : (n t temps : ℕ) (rest : List LocalPlace) → temps ≤ t → n ≤ t + 1 → n ≤ temps_from temps (Temp t ∷ rest)
temps_passed n t temps rest past more = passed_by (nat_lt t temps) n t temps rest refl past more

-- what such a temporary is in makes the whole as many
pub temps_counted : (n i t temps total : ℕ) (places : List LocalPlace) (place : LocalPlace) → i < length places → get_or places i place ≡ Temp t → temps ≤ t → n ≤ t + 1 → temps_from temps (drop i places) ≡ total → n ≤ total
temps_counted n zero t temps total [] place h is past more left = absurd (omega arith)
temps_counted n zero t temps total (first ∷ rest) place h is past more left =
    subst (λ x. n ≤ x) left (subst (λ p. n ≤ temps_from temps (p ∷ rest)) (sym is) (temps_passed n t temps rest past more))
temps_counted n (suc i) t temps total [] place h is past more left = absurd (omega arith)
temps_counted n (suc i) t temps total (first ∷ rest) place h is past more left = temps_counted n i t temps total rest place (omega arith) is past more left
