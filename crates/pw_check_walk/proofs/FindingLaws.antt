-- What is found at a point is the fault that the point tells.
use Rattle.std.specs.Prelude.{◌≢◌, IfErr}
use Rattle.std.proofs.Common.{◌≡◌, ◌<◌, ◌≤◌, Bool, true, false, cond, if◌then◌else◌, nat_lt, Option, None, Some, Result, Ok, Err, [], ◌∷◌, ◌++◌, option_map, refl, ap, sym, ◌∙◌, arith, subst}
use Rattle.std.proofs.lemmas.Bool.{ltb-true, ltb-false}
use mathlib.Core.Logic.{inr}
use Rattle.pw_check_walk.specs.declared.constraints.CheckFault.{CheckFault}
use Rattle.pw_check_walk.specs.Calls.{Obeys}
use Rattle.pw_check_walk.specs.Causes.{Cause, Point, rank, rank_of_kind, fault_of}
use Rattle.pw_check_walk.specs.Walks.{Walk, Done, Passing, bind, lesser, least, stopped, outcome, meets, ◌>>◌}
use Rattle.pw_check_walk.specs.declared.constraints.CheckKind.TheVariants.{NoMemory}
use Rattle.pw_check_walk.proofs.CallLaws.{same_call}
use Rattle.pw_check_walk.proofs.KindLaws.{never_memory}
use Rattle.pw_check_walk.proofs.WalkLaws.{one_answer}
use Rattle.pw_check_walk.specs.Found.{lesser_fault, with_cause, found_behind, found, lesser_found, told}

-- ---- the same by faults and by causes

lesser_by_rank : (b c : Cause) (x : Bool) → option_map fault_of (cond x (Some c) (Some b)) ≡ cond x (Some (fault_of c)) (Some (fault_of b))
lesser_by_rank b c true = refl
lesser_by_rank b c false = refl

fault_lesser : (best : Option Cause) (c : Cause) → option_map fault_of (lesser best c) ≡ lesser_fault (option_map fault_of best) (fault_of c)
fault_lesser None c = refl
fault_lesser (Some b) c = lesser_by_rank b c (nat_lt (rank c) (rank b))

fault_step : (best : Option Cause) (c : Cause) (x : Bool)
    → option_map fault_of (cond x (lesser best c) best) ≡ with_cause (option_map fault_of best) x (fault_of c)
fault_step best c true = fault_lesser best c
fault_step best c false = refl

least_found : (best : Option Cause) (p : Point) → option_map fault_of (least best p) ≡ found_behind (option_map fault_of best) p
least_found best [] = refl
least_found best (c ∷ rest) =
    least_found (cond c.broken (lesser best c) best) rest ∙ ap (λ b. found_behind b rest) (fault_step best c c.broken)

stopped_told : {A : Type 0} (c : Option Cause) (r : Result A CheckFault) → stopped c r ≡ told (option_map fault_of c) r
stopped_told None r = refl
stopped_told (Some c) r = refl

-- the fault of a point, or what follows
pub stopped_by_found : {A : Type 0} (p : Point) (r : Result A CheckFault) → stopped (least None p) r ≡ told (found p) r
stopped_by_found p r = stopped_told (least None p) r ∙ ap (λ o. told o r) (least_found None p)

-- ---- two lists of constraints

abbrev before : CheckFault → CheckFault → Bool
before f g = nat_lt (rank_of_kind f.kind) (rank_of_kind g.kind)

less : (f g : CheckFault) → before f g ≡ true → rank_of_kind f.kind < rank_of_kind g.kind
less f g e = ltb-true (rank_of_kind f.kind) (rank_of_kind g.kind) e

most : (f g : CheckFault) → before f g ≡ false → rank_of_kind g.kind ≤ rank_of_kind f.kind
most f g e = ltb-false (rank_of_kind f.kind) (rank_of_kind g.kind) e

lesser_thrice : (a f g : CheckFault) (x y z : Bool) → before f a ≡ x → before g f ≡ y → before g a ≡ z
    → lesser_fault (cond x (Some f) (Some a)) g ≡ lesser_found (Some a) (cond y (Some g) (Some f))
lesser_thrice a f g true true true h i j = rw (i, j) refl
lesser_thrice a f g true true false h i j =
    let one : rank_of_kind f.kind < rank_of_kind a.kind = less f a h in
    let two : rank_of_kind g.kind < rank_of_kind f.kind = less g f i in
    let three : rank_of_kind a.kind ≤ rank_of_kind g.kind = most g a j in
    absurd (omega arith)
lesser_thrice a f g true false z h i j = rw (i, h) refl
lesser_thrice a f g false true z h i j = refl
lesser_thrice a f g false false true h i j =
    let one : rank_of_kind a.kind ≤ rank_of_kind f.kind = most f a h in
    let two : rank_of_kind f.kind ≤ rank_of_kind g.kind = most g f i in
    let three : rank_of_kind g.kind < rank_of_kind a.kind = less g a j in
    absurd (omega arith)
lesser_thrice a f g false false false h i j = rw (j, h) refl

lesser_found-None : (o : Option CheckFault) → lesser_found None o ≡ o
lesser_found-None None = refl
lesser_found-None (Some f) = refl

lesser_step : (best : Option CheckFault) (f g : CheckFault)
    → lesser_fault (lesser_fault best f) g ≡ lesser_found best (lesser_fault (Some f) g)
lesser_step None f g = sym (lesser_found-None (lesser_fault (Some f) g))
lesser_step (Some a) f g = lesser_thrice a f g (before f a) (before g f) (before g a) refl refl refl

cause_step : (best : Option CheckFault) (broken : Bool) (f : CheckFault) (rest : Option CheckFault)
    → lesser_found (with_cause best broken f) rest ≡ lesser_found best (lesser_found (with_cause None broken f) rest)
cause_step best false f rest = ap (lesser_found best) (sym (lesser_found-None rest))
cause_step best true f None = refl
cause_step best true f (Some g) = lesser_step best f g

pub found_after : (best : Option CheckFault) (q : Point) → found_behind best q ≡ lesser_found best (found q)
found_after best [] = refl
found_after best (c ∷ rest) =
    found_after (with_cause best c.broken (fault_of c)) rest
    ∙ cause_step best c.broken (fault_of c) (found rest)
    ∙ ap (lesser_found best) (sym (found_after (with_cause None c.broken (fault_of c)) rest))

-- of two lists of constraints, one behind the other
pub found_append : (best : Option CheckFault) (p q : Point) → found_behind best (p ++ q) ≡ lesser_found (found_behind best p) (found q)
found_append best [] q = found_after best q
found_append best (c ∷ rest) q = found_append (with_cause best c.broken (fault_of c)) rest q

-- ---- where nothing is found

no_some : (f : CheckFault) → Some f ≡ None → ⊥
no_some f e = absurd (cc)

one_of_two : (x : Bool) (f g : CheckFault) → (h : CheckFault) × ((if x then Some g else Some f) ≡ Some h)
one_of_two true f g = (g, refl)
one_of_two false f g = (f, refl)

still_some : (f g : CheckFault) (b : Bool) → (h : CheckFault) × (with_cause (Some f) b g ≡ Some h)
still_some f g false = (f, refl)
still_some f g true = one_of_two (nat_lt (rank_of_kind g.kind) (rank_of_kind f.kind)) f g

-- what is found stays found
found_stays : (f : CheckFault) (p : Point) → found_behind (Some f) p ≡ None → ⊥
found_stays f [] e = no_some f e
found_stays f (c ∷ rest) e =
    let k = still_some f (fault_of c) c.broken in
    found_stays k.0 rest (ap (λ o. found_behind o rest) (sym k.1) ∙ e)

found_more : (o : Option CheckFault) (f : CheckFault) → lesser_found o (Some f) ≡ None → ⊥
found_more None f e = no_some f e
found_more (Some g) f e =
    let k = one_of_two (nat_lt (rank_of_kind f.kind) (rank_of_kind g.kind)) g f in
    no_some k.0 (sym k.1 ∙ e)

-- a broken constraint among others is found
pub found_among : (p q : Point) (c : Cause) → c.broken ≡ true → found (p ++ c ∷ q) ≡ None → ⊥
found_among p q c broken e = by (found (c ∷ q)) refl
  where
    by : (o : Option CheckFault) → found (c ∷ q) ≡ o → ⊥
    by None h = found_stays (fault_of c) q (ap (λ b. found_behind (with_cause None b (fault_of c)) q) (sym broken) ∙ h)
    by (Some f) h = found_more (found p) f (ap (lesser_found (found p)) (sym h) ∙ sym (found_append None p (c ∷ q)) ∙ e)

-- where nothing is found each constraint is met
pub unbroken : (p q : Point) (c : Cause) → found (p ++ c ∷ q) ≡ None → c.broken ≡ false
unbroken p q c none = by c.broken refl
  where
    by : (b : Bool) → c.broken ≡ b → c.broken ≡ false
    by false e = e
    by true e = absurd (found_among p q c e none)

-- ---- code that tests a point

pub end_ok : (o : Option CheckFault) (x : Unit {0}) → told o (Ok tt) ≡ Ok x → o ≡ None
end_ok None x e = refl
end_ok (Some f) x e = absurd (cc)

pub end_err : (o : Option CheckFault) (fault : CheckFault) → told {A = Unit {0}} o (Ok tt) ≡ Err fault → o ≡ Some fault
end_err None fault e = absurd (cc)
end_err (Some f) fault e = cc

outcome_passing : {A : Type 0} (p : Point) (w : Walk A) → outcome (Passing p w) ≡ told (found p) (outcome w)
unfolding outcome
outcome_passing p w = stopped_by_found p (outcome w)

passed : {S B : Type 0} (p : Point) (next : S → Walk (B × S)) (s : S) → (meets p >> next) s ≡ Passing p (next s)
unfolding bind
passed p next s = refl

-- behind a point that is met, what follows decides
pub point_ok : {S B R : Type 0} {view : R → B} {least_here : Option CheckFault} {ended : Result (Unit {0}) CheckFault} {x : Unit {0}}
    {r : Result R CheckFault} {left : S} (p : Point) (next : S → Walk (B × S)) (s : S)
    → least_here ≡ found p → ended ≡ told least_here (Ok tt) → ended ≡ Ok x → Obeys view (next s) r left → Obeys view ((meets p >> next) s) r left
point_ok {S} {B} {R} {view} {least_here} {ended} {x} {r} {left} p next s here end is rest =
    same_call view ((meets p >> next) s) (next s) r left
    (ap outcome (passed p next s) ∙ outcome_passing p (next s)
    ∙ ap (λ o. told o (outcome (next s))) (sym here ∙ end_ok least_here x (sym end ∙ is))) rest

-- the fault of a point is that of the whole
pub point_err : {S B R : Type 0} {view : R → B} {least_here : Option CheckFault} {ended : Result (Unit {0}) CheckFault} {fault : CheckFault}
    {r : Result R CheckFault} {left : S} (p : Point) (next : S → Walk (B × S)) (s : S)
    → least_here ≡ found p → ended ≡ told least_here (Ok tt) → ended ≡ Err fault → r ≡ Err fault → Obeys view ((meets p >> next) s) r left
point_err {S} {B} {R} {view} {least_here} {ended} {fault} {r} {left} p next s here end is same =
    subst (λ x. Obeys view ((meets p >> next) s) x left) (sym same)
    (record {
      made = tt;
      told = inr (ap outcome (passed p next s) ∙ outcome_passing p (next s)
          ∙ ap (λ o. told o (outcome (next s))) (sym here ∙ end_err least_here fault (sym end ∙ is)));
    })

-- behind a point that is all
obeyed : {S : Type 0} (w : Walk (Unit {0} × S)) (s : S) (o : Option CheckFault) → outcome w ≡ told o (Ok (tt, s)) → Obeys (λ (u : Unit {0}). u) w (told o (Ok tt)) s
obeyed w s None e = record { made = e; told = tt }
obeyed w s (Some fault) e = record { made = tt; told = inr e }

pub point_end : {S : Type 0} (p : Point) (s : S) (o : Option CheckFault) (r : Result (Unit {0}) CheckFault)
    → o ≡ found p → r ≡ told o (Ok tt) → Obeys (λ (u : Unit {0}). u) (Passing p (Done (tt, s))) r s
unfolding outcome
point_end p s o r here is =
    subst (λ x. Obeys (λ (u : Unit {0}). u) (Passing p (Done (tt, s))) x s) (sym is)
    (obeyed (Passing p (Done (tt, s))) s o (stopped_by_found p (Ok (tt, s)) ∙ ap (λ x. told x (Ok (tt, s))) (sym here)))

-- what is found at a point is the fault of a constraint, and no want of memory
pub no_want : {R : Type 0} {r : Result R CheckFault} {fault : CheckFault} (p : Point)
    → found p ≡ Some fault → r ≡ Err fault → IfErr r (λ f. f.kind ≢ NoMemory)
unfolding outcome
no_want {R} {r} {fault} p is same =
    let w : Walk (Unit {0}) = Passing p (Done tt) in
    let stops : outcome w ≡ Err fault = stopped_by_found p (Ok tt) ∙ ap (λ o. told o (Ok tt)) is in
    subst (λ (x : Result R CheckFault). IfErr x (λ f. f.kind ≢ NoMemory)) (sym same)
    (never_memory w fault ((one_answer w (Err fault)).1 (sym stops)))
