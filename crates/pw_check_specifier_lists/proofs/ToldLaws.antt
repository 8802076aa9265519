-- A rule whose first call takes no memory: its fault is told.
use Rattle.std.specs.Prelude.{◌⊎◌, ◌≢◌, IfErr}
use Rattle.std.proofs.Common.{◌≡◌, Result, Ok, Err, sym, subst, ◌∙◌}
use mathlib.Core.Logic.{inl, inr}
use Rattle.pw_check_walk.specs.declared.constraints.CheckFault.{CheckFault}
use Rattle.pw_check_walk.specs.declared.constraints.CheckKind.TheVariants.{NoMemory}
use Rattle.pw_check_walk.specs.Calls.{Obeys}
use Rattle.pw_check_walk.specs.Walks.{Walk, bind, outcome}
use Rattle.pw_check_walk.proofs.BindLaws.{bind_made, bind_stopped}
use Rattle.pw_check_walk.proofs.CallLaws.{made_by}

-- the fault of the call is that of the whole
pub told_err : {S A B Q R : Type 0} {seen : Q → A} {w : Walk (A × S)} {fault : CheckFault} {mid : S}
    {first : Result Q CheckFault} {r : Result R CheckFault} (next : A × S → Walk (B × S))
    → Obeys seen w first mid → IfErr first (λ f. f.kind ≢ NoMemory) → first ≡ Err fault → r ≡ Err fault
    → IfErr (outcome (bind w next)) (λ f. r ≡ Err f)
told_err {S} {A} {B} {Q} {R} {seen} {w} {fault} {mid} {first} {r} next o other e same =
    subst (λ x. IfErr x (λ f. r ≡ Err f))
    (sym
    (bind_stopped w next fault
    (by (subst (λ x. IfErr x (λ f. (f.kind ≡ NoMemory) ⊎ (outcome w ≡ Err f))) e o.told) (subst (λ x. IfErr x (λ f. f.kind ≢ NoMemory)) e other))))
    same
  where
    by : (fault.kind ≡ NoMemory) ⊎ (outcome w ≡ Err fault) → fault.kind ≢ NoMemory → outcome w ≡ Err fault
    by (inl none) not_none = absurd (not_none none)
    by (inr h) not_none = h

-- behind a call that made something there is no fault, where what follows makes something
pub told_ok : {S A B Q R : Type 0} {seen : Q → A} {w : Walk (A × S)} {made : Q} {mid : S} {first : Result Q CheckFault}
    (r : Result R CheckFault) (next : A × S → Walk (B × S)) (end : B × S)
    → Obeys seen w first mid → first ≡ Ok made → outcome (next (seen made, mid)) ≡ Ok end
    → IfErr (outcome (bind w next)) (λ f. r ≡ Err f)
told_ok {S} {A} {B} {Q} {R} {seen} {w} {made} {mid} {first} r next end o e makes =
    subst (λ x. IfErr x (λ f. r ≡ Err f)) (sym (bind_made w next (seen made, mid) (made_by o e) ∙ makes)) tt
