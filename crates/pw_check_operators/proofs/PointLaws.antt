-- A rule of one constraint, behind which something is made.
use Rattle.std.proofs.Common.{◌≡◌, ℕ, Bool, true, false, Ok, Err, [], ◌∷◌, ap, sym, inr, refl}
use Rattle.pw_check_walk.specs.Calls.{Obeys}
use Rattle.pw_check_walk.specs.Causes.{Constraint, ModifiableLvalue, CompoundOperands, needs, kind_of}
use Rattle.pw_check_walk.specs.declared.constraints.CheckKind.TheVariants.{Typing}
use Rattle.pw_check_walk.specs.Walks.{bind, outcome, meets, pure, ◌>>◌}
use Rattle.pw_check_rules.proofs.Booleans.{no}

pub made_there : {S A R : Type 0} (view : R → A) (a : A) (s : S) (r : R) → view r ≡ a → Obeys view (pure a s) (Ok r) s
unfolding outcome
made_there view a s r e = record { made = ap (λ x. Ok (x, s)) (sym e); told = tt }

pub point_met : {S A R : Type 0} (view : R → A) (constraint : Constraint) (t : ℕ) (holds : Bool) (a : A) (s : S) (r : R)
    → holds ≡ true → view r ≡ a → Obeys view ((meets (needs constraint t holds ∷ []) >> pure a) s) (Ok r) s
unfolding bind outcome
point_met view constraint t true a s r h e = record { made = ap (λ x. Ok (x, s)) (sym e); told = tt }
point_met view constraint t false a s r h e = no h

pub point_broken : {S A R : Type 0} (view : R → A) (constraint : Constraint) (t : ℕ) (holds : Bool) (a : A) (s : S)
    → holds ≡ false → Obeys view ((meets (needs constraint t holds ∷ []) >> pure a) s) (Err (record { kind = kind_of constraint; token = t })) s
unfolding bind outcome
point_broken view constraint t true a s h = no (sym h)
point_broken view constraint t false a s h = record { made = tt; told = inr refl }

-- of a compound assignment: its left operand, and both
pub compound_met : {S A R : Type 0} (view : R → A) (t : ℕ) (modifiable fits : Bool) (a : A) (s : S) (r : R)
    → modifiable ≡ true → fits ≡ true → view r ≡ a
    → Obeys view ((meets (needs ModifiableLvalue t modifiable ∷ needs CompoundOperands t fits ∷ []) >> pure a) s) (Ok r) s
unfolding bind outcome
compound_met view t true true a s r h k e = record { made = ap (λ x. Ok (x, s)) (sym e); told = tt }
compound_met view t true false a s r h k e = no k
compound_met view t false fits a s r h k e = no h

pub compound_broken : {S A R : Type 0} (view : R → A) (t : ℕ) (modifiable fits : Bool) (a : A) (s : S)
    → modifiable ≡ false
    → Obeys view ((meets (needs ModifiableLvalue t modifiable ∷ needs CompoundOperands t fits ∷ []) >> pure a) s) (Err (record { kind = Typing; token = t })) s
unfolding bind outcome
compound_broken view t true fits a s h = no (sym h)
compound_broken view t false true a s h = record { made = tt; told = inr refl }
compound_broken view t false false a s h = record { made = tt; told = inr refl }
