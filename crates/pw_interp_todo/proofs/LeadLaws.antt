-- What leads to what, and what code answers that does the first steps of an act.
use Rattle.std.proofs.Common.{◌≡◌, refl, sym, ap, subst, ◌∙◌, Bool, true, false, Option, Some, None, Result, Ok, Err}
use Rattle.std.specs.Prelude.{IfErr, option_map}
use Rattle.pw_cmean.specs.Worlds.{World}
use Rattle.pw_cmean.specs.Acts.{Act, State, Ending, Outcome, Gives, Ends, give, go_on, ◌>>=◌, branch, need, wrong}
use Rattle.pw_interp_state.specs.Shown.{Shown, Streams, all_shown}
use Rattle.pw_interp_state.specs.Runs.{Shows, Runs}
use Rattle.pw_interp_state.proofs.RunLaws.{ends}
use Rattle.pw_interp_calls.specs.declared.ending.Ending.TheVariants as E
use Rattle.pw_interp_calls.specs.declared.ending.Stop.{Stop}
use Rattle.pw_interp_calls.specs.declared.ending.Stop.TheVariants as S
use Rattle.pw_interp_calls.specs.Endings.{view_ending}
use Rattle.pw_interp_calls.specs.Answers.{Answers, Stops}
use Rattle.pw_interp_calls.proofs.AnswerLaws.{given_by, gives, ends_so}
use Rattle.pw_interp_todo.specs.Leading.{Leads, Continues}
use Rattle.pw_interp_todo.specs.Needs.{needed}

-- ---- what leads to what

pub stays : {A : Type 0} {world : World} {act : Act A} {w : Shown} → Leads world act w act w
stays = record { leads = λ st s e. (s, e, refl) }

pub further : {A : Type 0} {world : World} {act middle rest : Act A} {w u v : Shown} → Leads world act w middle u → Leads world middle u rest v → Leads world act w rest v
further one two = record {
  leads = λ st s e.
      let a = one.leads st s e in
      let b = two.leads st a.0 a.1 in
      (b.0, b.1, a.2 ∙ b.2);
}

-- an act that is the same from each state
pub same_lead : {A : Type 0} {world : World} {act other : Act A} {w : Shown} → ((s : State) → act s ≡ other s) → Leads world act w other w
same_lead same = record { leads = λ st s e. (s, e, same s) }

-- an act by another name
pub named : {A : Type 0} {world : World} {act other : Act A} {w : Shown} → act ≡ other → Leads world act w other w
named {world = world} {act = act} {w = w} e = subst (λ x. Leads world act w x w) e stays

-- behind what the first gave
pub behind_given : {A B : Type 0} {world : World} {first : Act A} {a : A} {w u : Shown} (next : A → Act B) → Runs world first w (Ok a) u → Leads world (first >>= next) w (next a) u
unfolding ◌>>=◌ go_on
behind_given {A = A} {world = world} {first = first} {a = a} {w = w} {u = u} next run = record { leads = λ st s e. by st (first s) (run.comes st s e) }
  where
    by : (st : Streams) (o : Outcome A) → Shows world o (Ok a) (u, st) → (t : State) × (all_shown world t ≡ (u, st)) × (go_on o next ≡ next a t)
    by st (Gives b t) (is, at) = let same : b ≡ a = cc is in (t, at, ap (λ x. next x t) same)
    by st (Ends ending t) (is, at) = cc is

-- with what follows both
pub in_front : {A B : Type 0} {world : World} {act rest : Act A} {w u : Shown} (next : A → Act B) → Leads world act w rest u → Leads world (act >>= next) w (rest >>= next) u
unfolding ◌>>=◌
in_front next one = record {
  leads = λ st s e.
      let a = one.leads st s e in
      (a.0, a.1, ap (λ o. go_on o next) a.2);
}

-- what a run of the rest comes to the whole comes to
pub runs_so : {A : Type 0} {world : World} {act rest : Act A} {w u v : Shown} {r : Result A Ending} → Leads world act w rest u → Runs world rest u r v → Runs world act w r v
runs_so {world = world} {v = v} {r = r} one run = record {
  comes = λ st s e.
      let a = one.leads st s e in
      subst (λ o. Shows world o r (v, st)) (sym a.2) (run.comes st a.0 a.1);
}

-- ---- what code answers

-- what is left is this
pub left_so : {A B : Type 0} {left : B → Act A} {world : World} {act : Act A} {w u : Shown} {r : Result B Stop} (b : B) → r ≡ Ok b → Leads world act w (left b) u → Continues left world act w r u
left_so {left = left} {world = world} {act = act} {w = w} {u = u} b e one =
    subst (λ x. Continues left world act w x u) (sym e) (record { goes = one; stopped = tt })

pub leaves : {A B : Type 0} {left : B → Act A} {world : World} {w : Shown} (b : B) → Continues left world (left b) w (Ok b) w
leaves b = record { goes = stays; stopped = tt }

-- the whole leads to what the code goes on with
pub followed : {A B : Type 0} {left : B → Act A} {world : World} {act rest : Act A} {w u v : Shown} {r : Result B Stop} → Leads world act w rest u → Continues left world rest u r v → Continues left world act w r v
followed {B = B} {left = left} {world = world} {act = act} {rest = rest} {w = w} {u = u} {v = v} {r = r} one c = by r c
  where
    by : (x : Result B Stop) → Continues left world rest u x v → Continues left world act w x v
    by (Ok b) o = record { goes = further one o.goes; stopped = tt }
    by (Err (S.Ended ending)) o = record { goes = tt; stopped = runs_so one o.stopped }
    by (Err S.NoMemory) o = record { goes = tt; stopped = tt }

-- want of memory
pub no_memory : {A B : Type 0} {left : B → Act A} {world : World} {act : Act A} {w u : Shown} {r : Result B Stop} → r ≡ Err S.NoMemory → Continues left world act w r u
no_memory {left = left} {world = world} {act = act} {w = w} {u = u} e =
    subst (λ x. Continues left world act w x u) (sym e) (record { goes = tt; stopped = tt })

-- behind what was given, what follows decides
pub then_more : {A B C D : Type 0} {seen : C → A} {left : D → Act B} {world : World} {first : Act A} {made : C} {w u v : Shown} {one : Result C Stop} {r : Result D Stop}
    (next : A → Act B) → Answers seen world first w one u → one ≡ Ok made → Continues left world (next (seen made)) u r v → Continues left world (first >>= next) w r v
then_more next a e c = followed (behind_given next (given_by a e)) c

-- where the first stops, all do
pub then_stops : {A B C D : Type 0} {seen : C → A} {left : D → Act B} {world : World} {first : Act A} {stop : Stop} {w u : Shown} {one : Result C Stop} {r : Result D Stop}
    (next : A → Act B) → Answers seen world first w one u → one ≡ Err stop → r ≡ Err stop → Continues left world (first >>= next) w r u
then_stops {left = left} {world = world} {first = first} {stop = stop} {w = w} {u = u} next a e is =
    subst (λ x. Continues left world (first >>= next) w x u) (sym is)
    (by stop (subst (λ x. IfErr x (λ s. Stops world first w s u)) e a.stopped))
  where
    by : (s : Stop) → Stops world first w s u → Continues left world (first >>= next) w (Err s) u
    by (S.Ended ending) run = record { goes = tt; stopped = ends world first next w u (view_ending ending) run }
    by S.NoMemory run = record { goes = tt; stopped = tt }

-- the result of the last
pub last_gives : {A C D : Type 0} {seen : C → A} {left : D → Act A} {world : World} {act : Act A} {made : C} {w u : Shown} {one : Result C Stop} {r : Result D Stop} (d : D)
    → Answers seen world act w one u → one ≡ Ok made → r ≡ Ok d → left d ≡ give (seen made) → Continues left world act w r u
unfolding give
last_gives {A = A} {seen = seen} {left = left} {world = world} {act = act} {made = made} {w = w} {u = u} d a e is gives =
    left_so d is (subst (λ x. Leads world act w x u) (sym gives) (record { leads = λ st s f. by st (act s) ((given_by a e).comes st s f) }))
  where
    by : (st : Streams) (o : Outcome A) → Shows world o (Ok (seen made)) (u, st) → (t : State) × (all_shown world t ≡ (u, st)) × (o ≡ give (seen made) t)
    by st (Gives b t) (is, at) = let same : b ≡ seen made = cc is in (t, at, ap (λ x. Gives x t) same)
    by st (Ends ending t) (is, at) = cc is

pub last_stops : {A C D : Type 0} {seen : C → A} {left : D → Act A} {world : World} {act : Act A} {stop : Stop} {w u : Shown} {one : Result C Stop} {r : Result D Stop}
    → Answers seen world act w one u → one ≡ Err stop → r ≡ Err stop → Continues left world act w r u
last_stops {left = left} {world = world} {act = act} {stop = stop} {w = w} {u = u} a e is =
    subst (λ x. Continues left world act w x u) (sym is) (record { goes = tt; stopped = subst (λ x. IfErr x (λ s. Stops world act w s u)) e a.stopped })

-- one of two acts
pub branch_on : {A B : Type 0} {left : B → Act A} {world : World} {yes_part : Act A} {test : Bool} {w u : Shown} {r : Result B Stop}
    (no_part : Act A) → test ≡ true → Continues left world yes_part w r u → Continues left world (branch test yes_part no_part) w r u
unfolding branch
branch_on {left = left} {world = world} {yes_part = yes_part} {w = w} {u = u} {r = r} no_part e a =
    subst (λ t. Continues left world (branch t yes_part no_part) w r u) (sym e) a

pub branch_off : {A B : Type 0} {left : B → Act A} {world : World} {no_part : Act A} {test : Bool} {w u : Shown} {r : Result B Stop}
    (yes_part : Act A) → test ≡ false → Continues left world no_part w r u → Continues left world (branch test yes_part no_part) w r u
unfolding branch
branch_off {left = left} {world = world} {no_part = no_part} {w = w} {u = u} {r = r} yes_part e a =
    subst (λ t. Continues left world (branch t yes_part no_part) w r u) (sym e) a

-- with what follows all
pub continues_in : {A B C : Type 0} {left : B → Act A} {world : World} {act : Act A} {w u : Shown} {r : Result B Stop} (next : A → Act C)
    → Continues left world act w r u → Continues (λ b. left b >>= next) world (act >>= next) w r u
continues_in {B = B} {left = left} {world = world} {act = act} {w = w} {u = u} {r = r} next c = by r c
  where
    by : (x : Result B Stop) → Continues left world act w x u → Continues (λ b. left b >>= next) world (act >>= next) w x u
    by (Ok b) o = record { goes = in_front next o.goes; stopped = tt }
    by (Err (S.Ended ending)) o = record { goes = tt; stopped = ends world act next w u (view_ending ending) o.stopped }
    by (Err S.NoMemory) o = record { goes = tt; stopped = tt }

-- ---- values that must be there

pub need_seen : {A B : Type 0} {view : B → A} {world : World} {p : Option A} {w : Shown} {r : Result B Stop} (o : Option B) → r ≡ needed o → option_map view o ≡ p → Answers view world (need p) w r w
unfolding need wrong
need_seen {B = B} {view = view} {world = world} {w = w} {r = r} o is seen =
    subst (λ x. Answers view world (need x) w r w) seen (subst (λ x. Answers view world (need (option_map view o)) w x w) (sym is) (by o))
  where
    by : (x : Option B) → Answers view world (need (option_map view x)) w (needed x) w
    by (Some b) = gives b
    by None = ends_so {stop = S.Ended E.Wrong} refl

pub need_there : {A : Type 0} {world : World} {w : Shown} {r : Result A Stop} (o : Option A) → r ≡ needed o → Answers (λ a. a) world (need o) w r w
unfolding need wrong
need_there {A = A} {world = world} {w = w} o is = subst (λ x. Answers (λ a. a) world (need o) w x w) (sym is) (by o)
  where
    by : (x : Option A) → Answers (λ a. a) world (need x) w (needed x) w
    by (Some a) = gives a
    by None = ends_so {stop = S.Ended E.Wrong} refl
