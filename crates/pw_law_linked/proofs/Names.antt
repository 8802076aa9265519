-- Functions of different names are found by their names.
use Rattle.std.specs.Prelude.{ℕ, zero, suc, ◌≡◌, ◌≢◌, ◌<◌, Bool, true, false, if◌then◌else◌, Some, List, [], ◌∷◌, map, find, length, Contains}
use Rattle.std.specs.List.{AllByRecursion}
use Rattle.std.specs.Str.{bytes_eq}
use Rattle.std.proofs.Common.{arith, subst, sym, ap, refl, ◌∙◌, get_or}
use Rattle.std.proofs.lemmas.Slice.Eq.{bytes_eq-Decides}
use Rattle.pw_flow.specs.ValidFlow.{AreDistinct}
use Rattle.pw_alloc.specs.declared.located.Located.{Located}
use Rattle.pw_law_linked.specs.Standing.{IsFoundAmong}

pub same_name : (a b : List ℕ) → a ≡ b → bytes_eq a b ≡ true
same_name a b e = (bytes_eq-Decides a b).1 e

pub other_name : (a b : List ℕ) → a ≢ b → bytes_eq a b ≡ false
other_name a b other = by (bytes_eq a b) refl
  where
    by : (t : Bool) → bytes_eq a b ≡ t → bytes_eq a b ≡ false
    by true e = absurd (other ((bytes_eq-Decides a b).0 e))
    by false e = e

found_behind : (first : Located) (ls some : List Located) → AllByRecursion (λ n. n ≢ first.body.name) (map (λ l. l.body.name) some) → AllByRecursion (IsFoundAmong ls) some
    → AllByRecursion (IsFoundAmong (first ∷ ls)) some
found_behind first ls [] others h = tt
found_behind first ls (l ∷ some) others h = (
  ap (λ (b : Bool). if b then Some first else find (λ g. bytes_eq g.body.name l.body.name) ls) (other_name first.body.name l.body.name (λ e. others.0 (sym e))) ∙ h.0,
  found_behind first ls some others.1 h.1,
)

pub all_found : (ls : List Located) → AreDistinct (map (λ l. l.body.name) ls) → AllByRecursion (IsFoundAmong ls) ls
all_found [] distinct = tt
all_found (l ∷ ls) distinct = (
  ap (λ (b : Bool). if b then Some l else find (λ g. bytes_eq g.body.name l.body.name) ls) (same_name l.body.name l.body.name refl),
  found_behind l ls ls distinct.0 (all_found ls distinct.1),
)

-- one of them
pub at : (P : Located → Type 0) (ls : List Located) (l : Located) → AllByRecursion P ls → Contains ls l → P l
at P [] l all c = absurd (omega (arith, c.1))
at P (first ∷ ls) l all c = by c.0 c.1 c.2 (at P ls l all.1)
  where
    by : (k : ℕ) → k < length (first ∷ ls) → get_or (first ∷ ls) k l ≡ l → (Contains ls l → P l) → P l
    by zero lt e later = subst P e all.0
    by (suc k) lt e later = later (k, omega (arith, lt), e)
