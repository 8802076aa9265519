-- What is not counted: counting is set off before, and set back behind.
use Rattle.std.specs.Prelude.{◌≡◌, Bool, false, Result, Ok, Err, refl}
use Rattle.std.proofs.Common.{ap, sym, ◌∙◌}
use Rattle.std.proofs.Math.Path.{subst}
use Rattle.pw_check_walk.specs.declared.constraints.CheckFault.{CheckFault}
use Rattle.pw_check_walk.specs.Calls.{Obeys}
use Rattle.pw_check_walk.specs.Walks.{Done, bind, outcome}
use Rattle.pw_check_walk.proofs.BindLaws.{bind_made}
use Rattle.pw_check_walk.proofs.CallLaws.{made_by, same_call, step_err}
use Rattle.pw_check_rules.specs.States.{Rule, State, uncounted, with_made}

abbrev pub counts : Bool → State → State
counts b = with_made (λ m. record m { counting = b })

uncounted_form : {A : Type 0} (inside : Rule A) (s : State)
    → uncounted inside s ≡ bind (inside (counts false s)) (λ t. Done (t.0, counts s.made.counting t.1))
unfolding uncounted bind
uncounted_form inside s = refl

set_off : {A : Type 0} (inside : Rule A) (s off : State) → off ≡ counts false s
    → outcome (uncounted inside s) ≡ outcome (bind (inside off) (λ t. Done (t.0, counts s.made.counting t.1)))
set_off inside s off is =
    ap outcome (uncounted_form inside s) ∙ ap (λ r. outcome (bind (inside r) (λ t. Done (t.0, counts s.made.counting t.1)))) (sym is)

uncounted_made : {A Q : Type 0} {seen : Q → A} (inside : Rule A) (s off mid left : State) (before : Bool) (made : Q) {first : Result Q CheckFault}
    → before ≡ s.made.counting → off ≡ counts false s → left ≡ counts before mid
    → Obeys seen (inside off) first mid → first ≡ Ok made → outcome (uncounted inside s) ≡ Ok (seen made, left)
unfolding outcome
uncounted_made {A} {Q} {seen} inside s off mid left before made {first} was is back obeys ok =
    set_off inside s off is
    ∙ bind_made (inside off) (λ t. Done (t.0, counts s.made.counting t.1)) (seen made, mid) (made_by obeys ok)
    ∙ ap (λ b. Ok (seen made, counts b mid)) (sym was)
    ∙ ap (λ l. Ok (seen made, l)) (sym back)

pub uncounted_ok : {A Q : Type 0} {seen : Q → A} (inside : Rule A) (s off mid left : State) (before : Bool) (made : Q) {first r : Result Q CheckFault}
    → before ≡ s.made.counting → off ≡ counts false s → left ≡ counts before mid
    → Obeys seen (inside off) first mid → first ≡ Ok made → r ≡ Ok made → Obeys seen (uncounted inside s) r left
uncounted_ok {A} {Q} {seen} inside s off mid left before made {first} {r} was is back obeys ok same =
    subst (λ x. Obeys seen (uncounted inside s) x left) (sym same)
    (record { made = uncounted_made inside s off mid left before made was is back obeys ok; told = tt })

pub uncounted_err : {A Q : Type 0} {seen : Q → A} (inside : Rule A) (s off mid left : State) {fault : CheckFault} {first r : Result Q CheckFault}
    → off ≡ counts false s
    → Obeys seen (inside off) first mid → first ≡ Err fault → r ≡ Err fault → Obeys seen (uncounted inside s) r left
uncounted_err {A} {Q} {seen} inside s off mid left {fault} {first} {r} is obeys stopped same =
    same_call seen (uncounted inside s) (bind (inside off) (λ t. Done (t.0, counts s.made.counting t.1))) r left (set_off inside s off is)
    (step_err _ obeys stopped same)
