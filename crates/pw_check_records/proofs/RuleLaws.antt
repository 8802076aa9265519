-- What ends a rule, and a point by what is found there.
use Rattle.std.proofs.Common.{◌≡◌, ◌⊎◌, None, Some, Result, Ok, Err, ap, ◌∙◌}
use mathlib.Core.Logic.{inl, inr}
use Rattle.pw_check_walk.specs.Calls.{Obeys}
use Rattle.pw_check_walk.specs.Causes.{Point}
use Rattle.pw_check_walk.specs.Walks.{Walk, Done, Passing, outcome}
use Rattle.pw_check_walk.specs.declared.constraints.CheckFault.{CheckFault}
use Rattle.pw_check_walk.specs.declared.constraints.CheckKind.TheVariants.{NoMemory}
use Rattle.pw_check_walk.proofs.CallLaws.{same_call}
use Rattle.pw_check_walk.specs.Found.{found, told}
use Rattle.pw_check_walk.proofs.FindingLaws.{stopped_by_found}

-- something is made
pub made_ok : {S A R : Type 0} (view : R → A) (x : R) (a : A) (s left : S) → a ≡ view x → s ≡ left → Obeys view (Done (a, s)) (Ok x) left
unfolding outcome
made_ok view x a s left e f = record { made = cc; told = tt }

-- behind a point at which nothing is found, what follows decides
pub passed_ok : {S A R : Type 0} (view : R → A) (p : Point) (w : Walk (A × S)) (r : Result R CheckFault) (left : S)
    → found p ≡ None → Obeys view w r left → Obeys view (Passing p w) r left
unfolding outcome
passed_ok view p w r left met rest =
    same_call view (Passing p w) w r left (stopped_by_found p (outcome w) ∙ ap (λ o. told o (outcome w)) met) rest

-- what is found at a point is told
pub passed_err : {S A R : Type 0} (view : R → A) (p : Point) (w : Walk (A × S)) (fault : CheckFault) (left : S)
    → (fault.kind ≡ NoMemory) ⊎ (found p ≡ Some fault) → Obeys view (Passing p w) (Err fault) left
unfolding outcome
passed_err view p w fault left h = record { made = tt; told = told_by h }
  where
    told_by : (fault.kind ≡ NoMemory) ⊎ (found p ≡ Some fault) → (fault.kind ≡ NoMemory) ⊎ (outcome (Passing p w) ≡ Err fault)
    told_by (inl none) = inl none
    told_by (inr is) = inr (stopped_by_found p (outcome w) ∙ ap (λ o. told o (outcome w)) is)
