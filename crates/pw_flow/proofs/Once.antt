-- How often a name stands among names that are distinct.
use Rattle.std.proofs.Common.{◌≡◌, ◌≢◌, ℕ, zero, suc, ◌+◌, ◌<◌, ◌≤◌, Bool, true, false, cond, List, [], ◌∷◌, ◌++◌, refl, sym, subst, arith}
use Rattle.std.specs.Prelude.{Contains}
use Rattle.std.specs.List.{AllByRecursion}
use Rattle.std.specs.Str.{bytes_eq}
use Rattle.std.proofs.lemmas.Slice.Eq.{bytes_eq-Decides}
use Rattle.std.proofs.lemmas.List.Sums.{sum_by-cons}
use Rattle.pw_value.specs.ProgramNames.{times}
use Rattle.pw_value.proofs.StartLaws.{stands_by_times}
use Rattle.pw_flow.specs.ValidFlow.{AreDistinct}
use Rattle.pw_flow.proofs.Lists.{all_left}

-- a name that each of them differs from is none of them
pub absent : (name : List ℕ) (names : List (List ℕ)) → AllByRecursion (λ other. other ≢ name) names → ¬ Contains names name
absent name [] none (k, lt, e) = absurd (omega arith)
absent name (other ∷ names) none (zero, lt, e) = none.0 e
absent name (other ∷ names) none (suc k, lt, e) = absent name names none.1 (k, omega arith, e)

none_by : (n : ℕ) → (0 < n → ⊥) → n ≡ 0
none_by zero h = refl
none_by (suc n) h = absurd (h (omega arith))

once_by : (name first : List ℕ) (names : List (List ℕ)) (same : Bool) → bytes_eq first name ≡ same → AllByRecursion (λ other. other ≢ first) names → times name names ≤ 1 → cond same 1 0 + times name names ≤ 1
once_by name first names true is none few =
    let e : first ≡ name = (bytes_eq-Decides first name).0 is in
    let no : times name names ≡ 0 = none_by (times name names) (λ lt. absent first names none (subst (λ (n : List ℕ). Contains names n) (sym e) (stands_by_times name names lt))) in
    omega (arith, no)
once_by name first names false is none few = omega (arith, few)

pub once : (name : List ℕ) (names : List (List ℕ)) → AreDistinct names → times name names ≤ 1
once name [] distinct = omega arith
once name (first ∷ names) distinct =
    rw (sum_by-cons (λ other. cond (bytes_eq other name) 1 0) first names) (once_by name first names (bytes_eq first name) refl distinct.0 (once name names distinct.1))

-- ---- names of two lists

pub distinct_left : (xs ys : List (List ℕ)) → AreDistinct (xs ++ ys) → AreDistinct xs
distinct_left [] ys distinct = tt
distinct_left (x ∷ xs) ys distinct = (all_left (λ other. other ≢ x) xs ys distinct.0, distinct_left xs ys distinct.1)

pub distinct_right : (xs ys : List (List ℕ)) → AreDistinct (xs ++ ys) → AreDistinct ys
distinct_right [] ys distinct = distinct
distinct_right (x ∷ xs) ys distinct = distinct_right xs ys distinct.1
