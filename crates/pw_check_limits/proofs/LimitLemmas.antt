-- What is found at a point, cause by cause, and where a type is to be complete.
use Rattle.std.proofs.Common.{◌≡◌, ℕ, Bool, true, false, if◌then◌else◌, Option, None, Some, is_some, unwrap_or, [], ◌∷◌, List, refl, ap}
use Rattle.std.proofs.lemmas.Option.{same_Some}
use Rattle.pw_check_walk.specs.Causes.{Cause, Constraint, Point, needs, DeclaredTag}
use Rattle.pw_types.specs.TypeTrees.{CType, RecordValue}
use Rattle.pw_check_walk.specs.Found.{found, lesser_found}
use Rattle.pw_check_walk.proofs.FindingLaws.{found_append}
use Rattle.pw_check_rules.specs.Kinds.{is_complete}
use Rattle.pw_check_rules.specs.Limits.{Spot, completed, lacks_content}

-- one cause, and another list behind it
pub found_pair : (c : Cause) (q : Point) → found (c ∷ q) ≡ lesser_found (found (c ∷ [])) (found q)
found_pair c q = found_append None (c ∷ []) q

tagged : {X : Type 0} (b : Bool) (o : Option ℕ) (tag : ℕ) (record_here : ℕ → X) (other : X) → (if b then o else None) ≡ Some tag
    → (if is_some o then (if b then record_here (unwrap_or o 0) else other) else other) ≡ record_here tag
tagged true (Some k) tag record_here other e = ap record_here (same_Some k tag e)
tagged true None tag record_here other e = absurd (cc)
tagged false o tag record_here other e = absurd (cc)

untagged : {X : Type 0} (b : Bool) (o : Option ℕ) (record_here : ℕ → X) (other : X) → (if b then o else None) ≡ None
    → (if is_some o then (if b then record_here (unwrap_or o 0) else other) else other) ≡ other
untagged true (Some k) record_here other e = absurd (cc)
untagged true None record_here other e = refl
untagged false (Some k) record_here other e = refl
untagged false None record_here other e = refl

module _ (records : List RecordValue) (spot : Spot) (constraint : Constraint) (ty : CType) where
  -- the specifiers brought in the tag of a record that has no content
  pub completed_tagged : (tag : ℕ) → (if lacks_content records ty then spot.tag else None) ≡ Some tag
      → completed records spot constraint ty ≡ needs DeclaredTag tag false
  completed_tagged tag e =
      tagged (lacks_content records ty) spot.tag tag (λ t. needs DeclaredTag t false)
      (needs constraint spot.token (is_complete records ty)) e

  pub completed_plainly : (if lacks_content records ty then spot.tag else None) ≡ None
      → completed records spot constraint ty ≡ needs constraint spot.token (is_complete records ty)
  completed_plainly e =
      untagged (lacks_content records ty) spot.tag (λ t. needs DeclaredTag t false)
      (needs constraint spot.token (is_complete records ty)) e
