-- Two walks, one behind the other: the second is met where the first made something, and the first's fault is that of both.
use Rattle.std.specs.Prelude.{◌≡◌, Bool, Option, None, Some, Result, Ok, Err, refl}
use Rattle.std.proofs.Common.{ap, sym, ◌∙◌}
use Rattle.pw_check_walk.specs.declared.constraints.CheckFault.{CheckFault}
use Rattle.pw_check_walk.specs.Causes.{Cause, Point, fault_of}
use Rattle.pw_check_walk.specs.Walks.{Walk, Done, Passing, Closed, bind, least, stopped, outcome}

-- what the second comes to behind what the first came to
abbrev pub behind : {A B : Type 0} → Result A CheckFault → (A → Walk B) → Result B CheckFault
behind (Ok a) next = outcome (next a)
behind (Err fault) next = Err fault

stopped_behind : {A B : Type 0} (c : Option Cause) (r : Result A CheckFault) (next : A → Walk B)
    → stopped c (behind r next) ≡ behind (stopped c r) next
stopped_behind None r next = refl
stopped_behind (Some c) r next = refl

pub outcome-bind : {A B : Type 0} (w : Walk A) (next : A → Walk B) → outcome (bind w next) ≡ behind (outcome w) next
unfolding bind outcome
outcome-bind (Done a) next = refl
outcome-bind (Passing p rest) next =
    ap (stopped (least None p)) (outcome-bind rest next) ∙ stopped_behind (least None p) (outcome rest) next
outcome-bind (Closed constraint token) next = refl

-- the two forms in which code meets it
pub bind_made : {A B : Type 0} (w : Walk A) (next : A → Walk B) (a : A) → outcome w ≡ Ok a → outcome (bind w next) ≡ outcome (next a)
bind_made w next a e = outcome-bind w next ∙ ap (λ r. behind r next) e

pub bind_stopped : {A B : Type 0} (w : Walk A) (next : A → Walk B) (fault : CheckFault) → outcome w ≡ Err fault → outcome (bind w next) ≡ Err fault
bind_stopped w next fault e = outcome-bind w next ∙ ap (λ r. behind r next) e
