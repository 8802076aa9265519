-- Walks that are the same, and how they end.
use Rattle.std.proofs.Common.{◌≡◌, Result, Ok, Err, IfOk, ap, refl, sym, subst}
use Rattle.pw_check_walk.specs.declared.constraints.CheckFault.{CheckFault}
use Rattle.pw_check_walk.specs.Calls.{Obeys}
use Rattle.pw_check_walk.specs.Walks.{Walk, Done, Passing, Closed, bind, outcome}
use Rattle.pw_check_walk.proofs.CallLaws.{same_call}

-- a walk that is the same
pub same_walk : {S A R : Type 0} {view : R → A} {v w : Walk (A × S)} {r : Result R CheckFault} {left : S} → v ≡ w → Obeys view w r left → Obeys view v r left
same_walk {S} {A} {R} {view} {v} {w} {r} {left} e o = same_call view v w r left (ap outcome e) o

-- one that comes to the same
pub same_end : {S A R : Type 0} {view : R → A} {v w : Walk (A × S)} {r : Result R CheckFault} {left : S} → outcome v ≡ outcome w → Obeys view w r left → Obeys view v r left
same_end {S} {A} {R} {view} {v} {w} {r} {left} e o = same_call view v w r left e o

-- one that makes this
pub done_with : {S A R : Type 0} {view : R → A} {a : A} {s left : S} {made : R} {r : Result R CheckFault} → r ≡ Ok made → view made ≡ a → left ≡ s
    → Obeys view (Done (a, s)) r left
unfolding outcome
done_with {S} {A} {R} {view} {a} {s} {left} {made} {r} is shows stays =
    subst (λ x. Obeys view (Done (a, s)) x left) (sym is) (record { made = λ j. Ok (sym shows j, sym stays j); told = tt })

-- one behind which nothing comes
pub bind_end : {A S : Type 0} (w : Walk (A × S)) → bind w (λ t. Done (t.0, t.1)) ≡ w
unfolding bind
bind_end (Done t) = refl
bind_end (Passing p rest) = ap (Passing p) (bind_end rest)
bind_end (Closed constraint token) = refl

-- the same behind a walk
pub same_behind : {A B : Type 0} (w : Walk A) (f g : A → Walk B) → ((a : A) → f a ≡ g a) → bind w f ≡ bind w g
same_behind w f g h = λ j. bind w (λ a. h a j)

-- what holds of an answer, and so more
pub ok_then : {A E : Type 0} {P Q : A → Type 0} (r : Result A E) → IfOk r P → ((a : A) → P a → Q a) → IfOk r Q
ok_then (Ok a) h more = more a h
ok_then (Err e) h more = tt
