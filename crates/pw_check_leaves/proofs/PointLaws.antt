-- A point, and what is made behind it.
use Rattle.std.proofs.Common.{◌≡◌, Option, None, Some, Result, Ok, Err, [], ◌∷◌, ◌++◌, refl, ap, sym, subst, ◌∙◌}
use Rattle.pw_check_walk.specs.declared.constraints.CheckFault.{CheckFault}
use Rattle.pw_check_walk.specs.Calls.{Obeys}
use Rattle.pw_check_walk.specs.Causes.{Cause, Point, fault_of}
use Rattle.pw_check_walk.specs.Walks.{Walk, Done, outcome, pure, meets, ◌>>◌}
use Rattle.pw_check_rules.specs.Limits.{Spot}
use Rattle.pw_check_rules.specs.States.{State}
use Rattle.pw_check_walk.specs.Found.{found, found_behind, lesser_found, with_cause}
use Rattle.pw_check_walk.proofs.FindingLaws.{found_after, point_ok, point_err}

pub made_there : {S A R : Type 0} {view : R → A} {r : Result R CheckFault} {made : R} (x : A) (s : S)
    → r ≡ Ok made → view made ≡ x → Obeys view (pure x s) r s
unfolding outcome
made_there {S} {A} {R} {view} {r} {made} x s same is =
    subst (λ y. Obeys view (pure x s) y s) (sym same) (record { made = ap (λ y. Ok (y, s)) (sym is); told = tt })

-- the same of another spot, which is this one
pub moved : {A R : Type 0} {view : R → A} {spot other : Spot} {r : Result R CheckFault} {left : State} (walk : Spot → Walk (A × State))
    → spot ≡ other → Obeys view (walk spot) r left → Obeys view (walk other) r left
moved {A} {R} {view} {spot} {other} {r} {left} walk same o = subst (λ x. Obeys view (walk x) r left) same o

-- what is made, with the state that is left
pub done : {S A R : Type 0} {view : R → A} {r : Result R CheckFault} {made : R} {after : S} (x : A) (t : S)
    → r ≡ Ok made → view made ≡ x → after ≡ t → Obeys view (Done (x, t)) r after
unfolding outcome
done {S} {A} {R} {view} {r} {made} {after} x t same is left =
    subst (λ y. Obeys view (Done (x, t)) y after) (sym same)
    (record { made = ap (λ y. Ok (y, t)) (sym is) ∙ ap (λ u. Ok (view made, u)) (sym left); told = tt })

-- nothing is broken there
pub point_met : {S A R : Type 0} {view : R → A} {r : Result R CheckFault} {made : R} (p : Point) (x : A) (s : S)
    → found p ≡ None → r ≡ Ok made → view made ≡ x → Obeys view ((meets p >> pure x) s) r s
point_met {S} {A} {R} {view} {r} {made} p x s none same is =
    point_ok {least_here = None} {ended = Ok tt} {x = tt} p (pure x) s (sym none) refl refl (made_there x s same is)

-- and something is
pub point_broken : {S B R : Type 0} {view : R → B} {r : Result R CheckFault} {fault : CheckFault} {left : S} (p : Point) (next : S → Walk (B × S)) (s : S)
    → found p ≡ Some fault → r ≡ Err fault → Obeys view ((meets p >> next) s) r left
point_broken {S} {B} {R} {view} {r} {fault} {left} p next s is same =
    point_err {least_here = Some fault} {ended = Err fault} {fault = fault} p next s (sym is) refl refl same

-- what is found in two lists of causes, one behind the other
pub found_over : (best : Option CheckFault) (p q : Point) → found_behind best (p ++ q) ≡ found_behind (found_behind best p) q
found_over best [] q = refl
found_over best (c ∷ rest) q = found_over (with_cause best c.broken (fault_of c)) rest q

-- and with two causes between them
pub found_between : (p : Point) (b c : Cause) (q : Point)
    → found (p ++ (b ∷ c ∷ q)) ≡ lesser_found (with_cause (with_cause (found p) b.broken (fault_of b)) c.broken (fault_of c)) (found q)
found_between p b c q =
    found_over None p (b ∷ c ∷ q) ∙ found_after (with_cause (with_cause (found p) b.broken (fault_of b)) c.broken (fault_of c)) q

-- what is found so, test by test
pub tested : {here first second behind all : Option CheckFault} (p : Point) (b c : Cause) (q : Point)
    → here ≡ found p → first ≡ with_cause here b.broken (fault_of b) → second ≡ with_cause first c.broken (fault_of c)
    → behind ≡ found q → all ≡ lesser_found second behind → all ≡ found (p ++ (b ∷ c ∷ q))
tested {here} {first} {second} {behind} {all} p b c q at one two after both =
    both
    ∙ ap (λ o. lesser_found o behind) (two ∙ ap (λ o. with_cause o c.broken (fault_of c)) (one ∙ ap (λ o. with_cause o b.broken (fault_of b)) at))
    ∙ ap (lesser_found (with_cause (with_cause (found p) b.broken (fault_of b)) c.broken (fault_of c))) after
    ∙ sym (found_between p b c q)
