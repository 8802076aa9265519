-- An enumerator behind the point of its name, with a value and without one.
use Rattle.std.proofs.Common.{◌≡◌, ℕ, Option, None, Some, Result, Ok, Err, true, false, [], ◌∷◌, refl, sym, subst}
use Rattle.pw_check_walk.specs.declared.constraints.CheckFault.{CheckFault}
use Rattle.pw_check_walk.specs.declared.constraints.CheckKind.TheVariants.{Constant}
use Rattle.pw_check_walk.specs.Calls.{Obeys}
use Rattle.pw_check_walk.specs.Causes.{needs, EnumeratorFits}
use Rattle.pw_check_walk.specs.Walks.{bind, change, pure, ◌>>◌}
use Rattle.pw_tree.specs.Trees.{Word}
use Rattle.pw_check_rules.specs.Leaves.{value_after}
use Rattle.pw_check_rules.specs.States.{State, EnumerationConstant, enter}
use Rattle.pw_check_walk.proofs.FindingLaws.{point_ok}
use Rattle.pw_check_leaves.specs.Parts.{counted_enumerator}
use Rattle.pw_check_leaves.proofs.PointLaws.{done, point_broken}

pub with_value : {r : Result (Option ℕ) CheckFault} {made : Option ℕ} {after : State} (w : Word) (n : ℕ) (value : Option ℕ) (s : State)
    → value ≡ Some n → r ≡ Ok made → made ≡ value_after n → after ≡ enter w.text (EnumerationConstant n) s
    → Obeys (λ (next : Option ℕ). next) (counted_enumerator w value s) r after
unfolding bind
with_value {r} {made} {after} w n value s some same is left =
    subst (λ v. Obeys (λ (next : Option ℕ). next) (counted_enumerator w v s) r after) (sym some)
    (point_ok {least_here = None} {ended = Ok tt} {x = tt} (needs EnumeratorFits w.token true ∷ [])
    (change (enter w.text (EnumerationConstant n)) >> pure (value_after n)) s refl refl refl
    (done (value_after n) (enter w.text (EnumerationConstant n) s) same is left))

pub without_value : {r : Result (Option ℕ) CheckFault} {left : State} (w : Word) (value : Option ℕ) (s : State)
    → value ≡ None → r ≡ Err (record { kind = Constant; token = w.token })
    → Obeys (λ (next : Option ℕ). next) (counted_enumerator w value s) r left
unfolding bind
without_value {r} {left} w value s none same =
    subst (λ v. Obeys (λ (next : Option ℕ). next) (counted_enumerator w v s) r left) (sym none)
    (point_broken (needs EnumeratorFits w.token false ∷ [])
    (change (enter w.text (EnumerationConstant 0)) >> pure (value_after 0)) s refl same)
