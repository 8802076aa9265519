-- The first entry of a list that passes a test.
use Rattle.std.proofs.Common.{◌≡◌, ℕ, zero, suc, ◌+◌, ◌<◌, Bool, true, false, ◌||◌, map, List, [], ◌∷◌, length, take, get_or, refl, arith, add-one, if◌then◌else◌}
use Rattle.std.specs.Prelude.{Option, None, Some}
use Rattle.std.specs.List.{list_any}
use Rattle.std.specs.Map.{lookup}

none_or : (b : Bool) (x : List ℕ) (o : Option (List ℕ)) → (if b then Some x else o) ≡ None → (b ≡ false) × (o ≡ None)
none_or true x o e = absurd cc
none_or false x o e = (refl, e)

-- no earlier entry passes, and this one does
pub lookup_found : (test : List ℕ → Bool) (xs : List (List ℕ × List ℕ)) (i : ℕ) (d : List ℕ × List ℕ) → i < length xs → lookup test (take i xs) ≡ None → test (get_or xs i d).0 ≡ true → lookup test xs ≡ Some (get_or xs i d).1
lookup_found test [] i d lt before here = absurd (omega (arith, lt))
lookup_found test (x ∷ xs) zero d lt before here = rw here refl
lookup_found test (x ∷ xs) (suc i) d lt before here =
    let both = none_or (test x.0) x.1 (lookup test (take i xs)) before in
    rw both.0 (lookup_found test xs i d (omega (arith, lt)) both.1 here)

more : (test : List ℕ → Bool) (xs : List (List ℕ × List ℕ)) (i : ℕ) (d : List ℕ × List ℕ) → i < length xs → lookup test (take i xs) ≡ None → test (get_or xs i d).0 ≡ false → lookup test (take (suc i) xs) ≡ None
more test [] i d lt before here = absurd (omega (arith, lt))
more test (x ∷ xs) zero d lt before here = rw here refl
more test (x ∷ xs) (suc i) d lt before here =
    let both = none_or (test x.0) x.1 (lookup test (take i xs)) before in
    rw both.0 (more test xs i d (omega (arith, lt)) both.1 here)

-- neither an earlier entry passes nor this one
pub lookup_more : (test : List ℕ → Bool) (xs : List (List ℕ × List ℕ)) (i : ℕ) (d : List ℕ × List ℕ) → i < length xs → lookup test (take i xs) ≡ None → test (get_or xs i d).0 ≡ false → lookup test (take (i + 1) xs) ≡ None
lookup_more test xs i d lt before here = rw add-one (more test xs i d lt before here)

-- a name that passes is some name that passes
pub any_found : {X : Type 0} (test : List ℕ → Bool) (name : X → List ℕ) (xs : List X) (i : ℕ) (d : X) → i < length xs → test (name (get_or xs i d)) ≡ true → true ≡ list_any test (map name xs)
any_found test name [] i d lt here = absurd (omega (arith, lt))
any_found test name (x ∷ xs) zero d lt here = rw here refl
any_found test name (x ∷ xs) (suc i) d lt here = by (test (name x)) (any_found test name xs i d (omega (arith, lt)) here)
  where
    by : (b : Bool) → true ≡ list_any test (map name xs) → true ≡ (b || list_any test (map name xs))
    by true e = refl
    by false e = e
