-- Names that come one after the other, none of them twice.
use Rattle.std.proofs.Common.{◌≡◌, ◌≢◌, ℕ, Bool, true, false, List, [], ◌∷◌, ◌++◌, map, refl, sym}
use Rattle.std.specs.Prelude.{◌||◌}
use Rattle.std.specs.List.{AllByRecursion}
use Rattle.std.specs.Str.{bytes_eq}
use Rattle.std.proofs.lemmas.Slice.Eq.{bytes_eq-Decides}
use Rattle.pw_fields.specs.Fields.{FitInTurn}
use Rattle.pw_fields.specs.FieldNames.{is_among}
use Rattle.pw_flow.specs.ValidFlow.{AreDistinct}
use Rattle.pw_flowfile.specs.Reading.{seen_after}

-- no name is among those before it
abbrev pub InTurn : List (List ℕ) → List (List ℕ) → Type 0
InTurn seen [] = Unit {0}
InTurn seen (name ∷ names) = (is_among seen name ≡ false) × InTurn (name ∷ seen) names

pub turn_forth : {X : Type 0} (name : X → List ℕ) (Q : X → Type 0) (seen : List (List ℕ)) (xs : List X)
    → FitInTurn (λ seen x. (is_among seen (name x) ≡ false) × Q x) (λ seen x. name x ∷ seen) seen xs → InTurn seen (map name xs) × AllByRecursion Q xs
turn_forth name Q seen [] fits = (tt, tt)
turn_forth name Q seen (x ∷ xs) fits = let rest = turn_forth name Q (name x ∷ seen) xs fits.1 in ((fits.0.0, rest.0), (fits.0.1, rest.1))

pub turn_back : {X : Type 0} (name : X → List ℕ) (Q : X → Type 0) (seen : List (List ℕ)) (xs : List X)
    → InTurn seen (map name xs) → AllByRecursion Q xs → FitInTurn (λ seen x. (is_among seen (name x) ≡ false) × Q x) (λ seen x. name x ∷ seen) seen xs
turn_back name Q seen [] turn all = tt
turn_back name Q seen (x ∷ xs) turn all = ((turn.0, all.0), turn_back name Q (name x ∷ seen) xs turn.1 all.1)

pub turn_append : (seen xs ys : List (List ℕ)) → InTurn seen xs → InTurn (seen_after seen xs) ys → InTurn seen (xs ++ ys)
turn_append seen [] ys one two = two
turn_append seen (x ∷ xs) ys one two = (one.0, turn_append (x ∷ seen) xs ys one.1 two)

pub turn_left : (seen xs ys : List (List ℕ)) → InTurn seen (xs ++ ys) → InTurn seen xs
turn_left seen [] ys turn = tt
turn_left seen (x ∷ xs) ys turn = (turn.0, turn_left (x ∷ seen) xs ys turn.1)

pub turn_right : (seen xs ys : List (List ℕ)) → InTurn seen (xs ++ ys) → InTurn (seen_after seen xs) ys
turn_right seen [] ys turn = turn
turn_right seen (x ∷ xs) ys turn = turn_right (x ∷ seen) xs ys turn.1

-- ---- distinct names

abbrev Apart : List (List ℕ) → List (List ℕ) → Type 0
Apart seen names = AllByRecursion (λ name. is_among seen name ≡ false) names

left_false : (a b : Bool) → (a || b) ≡ false → a ≡ false
left_false true b e = absurd cc
left_false false b e = refl

right_false : (a b : Bool) → (a || b) ≡ false → b ≡ false
right_false true b e = absurd cc
right_false false b e = e

both_false : (a b : Bool) → a ≡ false → b ≡ false → (a || b) ≡ false
both_false a b p q = rw (p, q) refl

unequal_to : (name other : List ℕ) → bytes_eq name other ≡ false → other ≢ name
unequal_to name other e = λ same. let t : bytes_eq name other ≡ true = (bytes_eq-Decides name other).1 (sym same) in cc

differs_by : (name other : List ℕ) (b : Bool) → bytes_eq name other ≡ b → other ≢ name → b ≡ false
differs_by name other true is h = absurd (h (sym ((bytes_eq-Decides name other).0 is)))
differs_by name other false is h = refl

split : (name : List ℕ) (seen names : List (List ℕ)) → Apart (name ∷ seen) names → AllByRecursion (λ other. other ≢ name) names × Apart seen names
split name seen [] apart = (tt, tt)
split name seen (other ∷ names) apart =
    let rest = split name seen names apart.1 in
    ((unequal_to name other (left_false (bytes_eq name other) (is_among seen other) apart.0), rest.0), (right_false (bytes_eq name other) (is_among seen other) apart.0, rest.1))

joined : (name : List ℕ) (seen names : List (List ℕ)) → AllByRecursion (λ other. other ≢ name) names → Apart seen names → Apart (name ∷ seen) names
joined name seen [] none apart = tt
joined name seen (other ∷ names) none apart = (both_false (bytes_eq name other) (is_among seen other) (differs_by name other (bytes_eq name other) refl none.0) apart.0, joined name seen names none.1 apart.1)

distinct_forth : (seen names : List (List ℕ)) → InTurn seen names → AreDistinct names × Apart seen names
distinct_forth seen [] turn = (tt, tt)
distinct_forth seen (name ∷ names) turn =
    let rest = distinct_forth (name ∷ seen) names turn.1 in
    let parts = split name seen names rest.1 in
    ((parts.0, rest.0), (turn.0, parts.1))

distinct_back : (seen names : List (List ℕ)) → AreDistinct names → Apart seen names → InTurn seen names
distinct_back seen [] distinct apart = tt
distinct_back seen (name ∷ names) distinct apart = (apart.0, distinct_back (name ∷ seen) names distinct.1 (joined name seen names distinct.0 apart.1))

apart_from_none : (names : List (List ℕ)) → Apart [] names
apart_from_none [] = tt
apart_from_none (name ∷ names) = (refl, apart_from_none names)

pub turn_distinct : (names : List (List ℕ)) → InTurn [] names → AreDistinct names
turn_distinct names turn = (distinct_forth [] names turn).0

pub distinct_turn : (names : List (List ℕ)) → AreDistinct names → InTurn [] names
distinct_turn names distinct = distinct_back [] names distinct (apart_from_none names)
