-- Code that follows one rule behind another follows both.
use Rattle.std.specs.Prelude.{ℕ, ◌≡◌, ◌⊎◌, Result, Ok, Err, IfOk, IfErr, refl}
use Rattle.std.proofs.Common.{ap, sym, ◌∙◌}
use Rattle.std.proofs.Math.Path.{subst}
use Rattle.std.specs.Result.{IsErr, IsErrAnd}
use mathlib.Core.Logic.{inl, inr}
use Rattle.pw_check_walk.specs.declared.constraints.CheckFault.{CheckFault}
use Rattle.pw_check_walk.specs.declared.constraints.CheckKind.TheVariants.{NoMemory}
use Rattle.pw_check_walk.specs.Calls.{Obeys}
use Rattle.pw_check_walk.specs.Causes.{Constraint}
use Rattle.pw_check_walk.specs.Walks.{Walk, Done, Passing, Closed, bind, outcome}
use Rattle.pw_check_walk.proofs.BindLaws.{bind_made, bind_stopped}

pub bind_assoc : {A B C : Type 0} (w : Walk A) (f : A → Walk B) (g : B → Walk C)
    → bind (bind w f) g ≡ bind w (λ a. bind (f a) g)
unfolding bind
bind_assoc (Done a) f g = refl
bind_assoc (Passing p rest) f g = ap (Passing p) (bind_assoc rest f g)
bind_assoc (Closed constraint token) f g = refl

pub bind_done : {A B : Type 0} (a : A) (next : A → Walk B) → bind (Done a) next ≡ next a
unfolding bind
bind_done a next = refl

pub bind_closed : {A B : Type 0} (constraint : Constraint) (token : ℕ) (next : A → Walk B) → bind (Closed constraint token) next ≡ Closed constraint token
unfolding bind
bind_closed constraint token next = refl

-- the same call, of a walk that comes to the same
pub same_call : {S A R : Type 0} (view : R → A) (v w : Walk (A × S)) (r : Result R CheckFault) (left : S)
    → outcome v ≡ outcome w → Obeys view w r left → Obeys view v r left
same_call view v w (Ok x) left e o = record { made = e ∙ o.made; told = tt }
same_call view v w (Err fault) left e o = record { made = tt; told = told_by o.told }
  where
    told_by : (fault.kind ≡ NoMemory) ⊎ (outcome w ≡ Err fault) → (fault.kind ≡ NoMemory) ⊎ (outcome v ≡ Err fault)
    told_by (inl none) = inl none
    told_by (inr h) = inr (e ∙ h)

-- what a call that made something says of its rule
pub made_by : {S A Q : Type 0} {seen : Q → A} {w : Walk (A × S)} {made : Q} {mid : S} {first : Result Q CheckFault}
    → Obeys seen w first mid → first ≡ Ok made → outcome w ≡ Ok (seen made, mid)
made_by {S} {A} {Q} {seen} {w} {made} {mid} {first} o e = subst (λ x. IfOk x (λ y. outcome w ≡ Ok (seen y, mid))) e o.made

-- behind a call that made something, what follows decides
pub step_ok : {S A B Q R : Type 0} {seen : Q → A} {view : R → B} {w : Walk (A × S)} {made : Q} {mid : S}
    {first : Result Q CheckFault} {r : Result R CheckFault} {left : S}
    (next : A × S → Walk (B × S)) → Obeys seen w first mid → first ≡ Ok made → Obeys view (next (seen made, mid)) r left → Obeys view (bind w next) r left
step_ok {S} {A} {B} {Q} {R} {seen} {view} {w} {made} {mid} {first} {r} {left} next o e rest =
    same_call view (bind w next) (next (seen made, mid)) r left
    (bind_made w next (seen made, mid) (made_by o e)) rest

-- the fault of a call is that of the whole
pub step_err : {S A B Q R : Type 0} {seen : Q → A} {view : R → B} {w : Walk (A × S)} {fault : CheckFault}
    {mid left : S} {first : Result Q CheckFault} {r : Result R CheckFault}
    (next : A × S → Walk (B × S)) → Obeys seen w first mid → first ≡ Err fault → r ≡ Err fault → Obeys view (bind w next) r left
step_err {S} {A} {B} {Q} {R} {seen} {view} {w} {fault} {mid} {left} {first} {r} next o e same =
    subst (λ x. Obeys view (bind w next) x left) (sym same)
    (record { made = tt; told = told_by (subst (λ x. IfErr x (λ f. (f.kind ≡ NoMemory) ⊎ (outcome w ≡ Err f))) e o.told) })
  where
    told_by : (fault.kind ≡ NoMemory) ⊎ (outcome w ≡ Err fault) → (fault.kind ≡ NoMemory) ⊎ (outcome (bind w next) ≡ Err fault)
    told_by (inl none) = inl none
    told_by (inr h) = inr (bind_stopped w next fault h)
