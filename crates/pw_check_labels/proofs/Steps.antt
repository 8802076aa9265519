-- Code that follows a rule step by step: where the rule asks or changes the state, where a constraint is met or broken, and
-- where it ends.
use Rattle.std.proofs.Common.{◌≡◌, ℕ, Bool, true, false, Result, Ok, Err, [], ◌∷◌, refl, sym, subst}
use mathlib.Core.Logic.{inr}
use Rattle.pw_check_walk.specs.declared.constraints.CheckFault.{CheckFault}
use Rattle.pw_check_walk.specs.Calls.{Obeys}
use Rattle.pw_check_walk.specs.Causes.{Constraint, needs, kind_of}
use Rattle.pw_check_walk.specs.Walks.{Walk, Done, Passing, bind, outcome}
use Rattle.pw_check_walk.proofs.CallLaws.{bind_assoc}
use Rattle.pw_check_rules.proofs.Booleans.{no}

module _ {S A B R : Type 0} {view : R → B} {r : Result R CheckFault} {left : S} where
  -- what the state says, or a change of it, as the code has them, and then the rest
  pub from : {a x : A} {s mid : S} (next : A × S → Walk (B × S)) → x ≡ a → mid ≡ s → Obeys view (next (x, mid)) r left
      → Obeys view (bind (Done (a, s)) next) r left
  unfolding bind
  from {a} {x} {s} {mid} next e f o = subst (λ y. Obeys view (next y) r left) (λ j. (e j, f j)) o

  -- the same at the head of the first of two walks
  pub from_within : {C : Type 0} {a x : A} {s mid : S} (inner : A × S → Walk (C × S)) (next : C × S → Walk (B × S)) → x ≡ a → mid ≡ s
      → Obeys view (bind (inner (x, mid)) next) r left → Obeys view (bind (bind (Done (a, s)) inner) next) r left
  unfolding bind
  from_within {C} {a} {x} {s} {mid} inner next e f o = subst (λ y. Obeys view (bind (inner y) next) r left) (λ j. (e j, f j)) o

-- what is made at the end
pub ends : {S A R : Type 0} {view : R → A} {a : A} {s left : S} {x : R} → view x ≡ a → left ≡ s → Obeys view (Done (a, s)) (Ok x) left
unfolding outcome
ends e f = record { made = λ j. Ok (sym e j, sym f j); told = tt }

-- ---- a constraint

abbrev pub one : {S B : Type 0} → Constraint → ℕ → Bool → (Unit {0} × S → Walk (B × S)) → S → Walk (B × S)
one constraint t holds next s = bind (Passing (needs constraint t holds ∷ []) (Done (tt, s))) next

pub one_met : {S B R : Type 0} {view : R → B} {r : Result R CheckFault} {left s : S} (constraint : Constraint) (t : ℕ) (holds : Bool)
    (next : Unit {0} × S → Walk (B × S)) → holds ≡ true → Obeys view (next (tt, s)) r left → Obeys view (one constraint t holds next s) r left
unfolding bind outcome
one_met constraint t true next e o = record { made = o.made; told = o.told }
one_met constraint t false next e o = no e

pub one_broken : {S B R : Type 0} {view : R → B} {left : S} (s : S) (constraint : Constraint) (t : ℕ) (holds : Bool) (next : Unit {0} × S → Walk (B × S))
    → holds ≡ false → Obeys view (one constraint t holds next s) (Err (record { kind = kind_of constraint; token = t })) left
unfolding bind outcome
one_broken s constraint t true next e = no (sym e)
one_broken s constraint t false next e = record { made = tt; told = inr refl }

-- ---- walks in other words: one, and then two
pub regroup : {S A C B R : Type 0} {view : R → B} {r : Result R CheckFault} {left : S} (w : Walk (A × S)) (inner : A × S → Walk (C × S))
    (next : C × S → Walk (B × S)) → Obeys view (bind w (λ a. bind (inner a) next)) r left → Obeys view (bind (bind w inner) next) r left
regroup {S} {A} {C} {B} {R} {view} {r} {left} w inner next o = subst (λ x. Obeys view x r left) (sym (bind_assoc w inner next)) o

-- the same of an equal walk
pub same : {S A R : Type 0} {view : R → A} {v w : Walk (A × S)} {r : Result R CheckFault} {left : S} → v ≡ w → Obeys view w r left → Obeys view v r left
same {S} {A} {R} {view} {v} {w} {r} {left} e o = subst (λ x. Obeys view x r left) (sym e) o
