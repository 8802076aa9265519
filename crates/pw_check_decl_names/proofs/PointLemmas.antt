-- What is found at a point, one list of causes behind another.
use Rattle.std.proofs.Common.{◌≡◌, Bool, true, false, if◌then◌else◌, [], ◌∷◌, Option, None, Some, Result, Ok, List, ◌++◌, append_assoc, ap, sym, subst, ◌∙◌}
use mathlib.Core.Logic.{inr}
use Rattle.pw_check_walk.specs.declared.constraints.CheckFault.{CheckFault}
use Rattle.pw_types.specs.TypeTrees.{QType, RecordValue, type_of}
use Rattle.pw_check_rules.specs.Declarations.{object_point}
use Rattle.pw_check_rules.specs.Kinds.{is_open_array}
use Rattle.pw_check_rules.specs.Limits.{Spot, completed}
use Rattle.pw_check_walk.specs.Causes.{Point, CompleteObject, InitialisedKind}
use Rattle.pw_check_walk.specs.Calls.{Obeys}
use Rattle.pw_check_walk.specs.Walks.{Done, Passing, outcome}
use Rattle.pw_check_walk.specs.Found.{found, found_behind, lesser_found, told}
use Rattle.pw_check_walk.proofs.FindingLaws.{found_after, found_append, stopped_by_found}

module _ (a b : Point) (x r : Option CheckFault) where
  -- the causes of a second list are tested behind what was found in the first
  pub behind_found : x ≡ found a → r ≡ found_behind x b → r ≡ found (a ++ b)
  behind_found first is =
      is ∙ ap (λ y. found_behind y b) first ∙ found_after (found a) b ∙ sym (found_append None a b)

  -- what is found in either
  pub both_found : (y : Option CheckFault) → x ≡ found a → y ≡ found b → r ≡ lesser_found x y → r ≡ found (a ++ b)
  both_found y first second is =
      is ∙ ap (λ z. lesser_found z y) first ∙ ap (lesser_found (found a)) second ∙ sym (found_append None a b)

pub three_found : (a b c : Point) (x y z r : Option CheckFault) → x ≡ found a → y ≡ found_behind x b → z ≡ found c → r ≡ lesser_found y z → r ≡ found (a ++ (b ++ c))
three_found a b c x y z r first second third is =
    both_found (a ++ b) c y r z (behind_found a b x y first second) third is ∙ ap found (append_assoc a b c)

-- code that tests a point and no more
pub meets_told : {S : Type 0} (p : Point) (s : S) (here : Option CheckFault) (r : Result (Unit {0}) CheckFault) → here ≡ found p → r ≡ told here (Ok tt)
    → Obeys (λ u. u) (Passing p (Done (tt, s))) r s
unfolding outcome
meets_told p s None r seen is =
    subst (λ x. Obeys (λ u. u) (Passing p (Done (tt, s))) x s) (sym is)
    (record { made = stopped_by_found p (Ok (tt, s)) ∙ ap (λ o. told o (Ok (tt, s))) (sym seen); told = tt })
meets_told p s (Some fault) r seen is =
    subst (λ x. Obeys (λ u. u) (Passing p (Done (tt, s))) x s) (sym is)
    (record { made = tt; told = inr (stopped_by_found p (Ok (tt, s)) ∙ ap (λ o. told o (Ok (tt, s))) (sym seen)) })

-- an object of no linkage
module _ (records : List RecordValue) (spot : Spot) (initialised : Bool) (q : QType) where
  pub plain_object : initialised ≡ false → object_point records spot initialised q ≡ completed records spot CompleteObject (type_of q) ∷ []
  plain_object e = ap (λ b. object_point records spot b q) e

  pub closed_object : initialised ≡ true → is_open_array (type_of q) ≡ false → object_point records spot initialised q ≡ completed records spot InitialisedKind (type_of q) ∷ []
  closed_object e closed =
      ap (λ b. object_point records spot b q) e
      ∙ ap (λ b. if b then [] else (completed records spot InitialisedKind (type_of q) ∷ [])) closed
