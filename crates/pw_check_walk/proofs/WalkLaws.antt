-- What a walk answers is its outcome, and nothing else.
use Rattle.std.specs.Prelude.{◌≡◌, ◌↔◌, Option, None, Result, Ok, Err, List, [], ◌∷◌, All, refl}
use Rattle.std.proofs.lemmas.List.Elements.{All-nil, All-cons, All-head, All-tail}
use Rattle.pw_check_walk.specs.declared.constraints.CheckFault.{CheckFault}
use Rattle.pw_check_walk.specs.Causes.{Cause, Point, fault_of}
use Rattle.pw_check_walk.specs.Walks.{Walk, Done, Passing, Closed, least, stopped, outcome}
use Rattle.pw_check_walk.specs.Answers.{IsMet, IsTold, by_points, Ends, Stops, AtPoint, AtEnd, Answers}
use Rattle.pw_check_walk.proofs.Points.{Found, First, IsNone, IsFound, first_of, least-met, least-found}

-- ---- from the relation to the outcome

met_outcome : {A : Type 0} (points : List Point) (w : Walk A) → All IsMet points → outcome (by_points points w) ≡ outcome w
unfolding outcome
met_outcome [] w met = refl
met_outcome (p ∷ points) w met =
    rw (least-met None p (All-head IsMet p points met)) (met_outcome points w (All-tail IsMet p points met))

told_outcome : {A : Type 0} (p : Point) (rest : Walk A) (fault : CheckFault) → IsTold p fault → outcome (Passing p rest) ≡ Err fault
unfolding outcome
told_outcome p rest fault t =
    rw (t.cut, least-found t.before t.cause t.behind t.broken t.earlier t.later, t.told) refl

ends_outcome : {A : Type 0} (w : Walk A) (made : A) → Ends w made → Ok made ≡ outcome w
unfolding outcome
ends_outcome w made e = rw (e.is, met_outcome e.points (Done made) e.met) refl

stops_outcome : {A : Type 0} (w : Walk A) (fault : CheckFault) → Stops w fault → Err fault ≡ outcome w
unfolding outcome
stops_outcome w fault (AtPoint s) =
    rw (s.is, met_outcome s.points (Passing s.point s.rest) s.met, told_outcome s.point s.rest fault s.told) refl
stops_outcome w fault (AtEnd s) = rw (s.is, met_outcome s.points (Closed s.constraint s.token) s.met, s.told) refl

answers_outcome : {A : Type 0} (w : Walk A) (answer : Result A CheckFault) → Answers w answer → answer ≡ outcome w
answers_outcome w (Ok made) e = ends_outcome w made e
answers_outcome w (Err fault) s = stops_outcome w fault s

-- ---- and back

told_first : (p : Point) (c : Cause) → Found p c → IsTold p (fault_of c)
told_first p c f =
    record {
      before = f.before;
      cause = c;
      behind = f.behind;
      cut = f.cut;
      broken = f.broken;
      told = refl;
      earlier = f.earlier;
      later = f.later;
    }

one_point_more : {A : Type 0} (p : Point) (rest : Walk A) (answer : Result A CheckFault) → IsMet p → Answers rest answer → Answers (Passing p rest) answer
one_point_more p rest (Ok made) met e =
    record { points = p ∷ e.points; met = All-cons IsMet p e.points met e.met; is = rw (← e.is) refl }
one_point_more p rest (Err fault) met (AtPoint s) =
    AtPoint (record {
      points = p ∷ s.points;
      met = All-cons IsMet p s.points met s.met;
      point = s.point;
      rest = s.rest;
      is = rw (← s.is) refl;
      told = s.told;
    })
one_point_more p rest (Err fault) met (AtEnd s) =
    AtEnd (record {
      points = p ∷ s.points;
      met = All-cons IsMet p s.points met s.met;
      constraint = s.constraint;
      token = s.token;
      is = rw (← s.is) refl;
      told = s.told;
    })

at_point : {A : Type 0} (p : Point) (rest : Walk A) (r : Option Cause) → First p r → Answers rest (outcome rest)
    → Answers (Passing p rest) (stopped r (outcome rest))
at_point p rest r (IsNone same met) before = rw same (one_point_more p rest (outcome rest) met before)
at_point p rest r (IsFound c same f) before =
    rw same (AtPoint (record {
      points = [];
      met = All-nil IsMet;
      point = p;
      rest = rest;
      is = refl;
      told = told_first p c f;
    }))

outcome_answers : {A : Type 0} (w : Walk A) → Answers w (outcome w)
unfolding outcome
outcome_answers (Done a) = record { points = []; met = All-nil IsMet; is = refl }
outcome_answers (Passing p rest) = at_point p rest (least None p) (first_of p) (outcome_answers rest)
outcome_answers (Closed constraint token) =
    AtEnd (record { points = []; met = All-nil IsMet; constraint = constraint; token = token; is = refl; told = refl })

back : {A : Type 0} (w : Walk A) (answer : Result A CheckFault) → answer ≡ outcome w → Answers w answer
back w answer e = rw e (outcome_answers w)

pub one_answer : {A : Type 0} (w : Walk A) (answer : Result A CheckFault) → Answers w answer ↔ answer ≡ outcome w
one_answer w answer = (answers_outcome w answer, back w answer)
