-- What code answers that does the first steps of an act.
use Rattle.std.proofs.Common.{◌≡◌, subst, Some, Result, Ok, Err}
use Rattle.pw_cmean.specs.Worlds.{World}
use Rattle.pw_cmean.specs.Acts as acts
use Rattle.pw_cmean.specs.Acts.{Act, ◌>>=◌}
use Rattle.pw_interp_state.specs.Shown.{Shown}
use Rattle.pw_interp_state.specs.Runs.{Runs}
use Rattle.pw_interp_state.proofs.RunLaws.{ends, stopped}
use Rattle.pw_interp_calls.specs.declared.ending.Stop.{Stop}
use Rattle.pw_interp_calls.specs.declared.ending.Stop.TheVariants as S
use Rattle.pw_interp_calls.specs.Answers.{Answers}
use Rattle.pw_interp_calls.specs.Endings.{told_stop, view_ending}
use Rattle.pw_interp_todo.specs.Leading.{Leads, Continues}
use Rattle.pw_interp_todo.proofs.LeadLaws.{behind_given, runs_so}

-- what an answer leaves is what follows it
pub gives_next : {A B C : Type 0} {seen : C → A} {world : World} {first : Act A} {w u : Shown} {r : Result C Stop} (next : A → Act B)
    → Answers seen world first w r u → Continues (λ made. next (seen made)) world (first >>= next) w r u
gives_next {C = C} {seen = seen} {world = world} {first = first} {w = w} {u = u} {r = r} next a = by r a
  where
    by : (x : Result C Stop) → Answers seen world first w x u → Continues (λ made. next (seen made)) world (first >>= next) w x u
    by (Ok made) o = record { goes = behind_given next o.given; stopped = tt }
    by (Err (S.Ended ending)) o = record { goes = tt; stopped = ends world first next w u (view_ending ending) o.stopped }
    by (Err S.NoMemory) o = record { goes = tt; stopped = tt }

-- how a run ends
pub ends_continue : {A B : Type 0} {left : B → Act A} {world : World} {w : Shown} {ending : acts.Ending} {s : Stop} → told_stop s ≡ Some ending → Continues left world (acts.stop ending) w (Err s) w
ends_continue {A = A} {left = left} {world = world} {w = w} {ending = ending} {s = s} e = by s e
  where
    by : (x : Stop) → told_stop x ≡ Some ending → Continues left world (acts.stop {A = A} ending) w (Err x) w
    by (S.Ended y) e =
        let is : ending ≡ view_ending y = cc e in
        record { goes = tt; stopped = subst (λ q. Runs world (acts.stop {A = A} ending) w (Err q) w) is (stopped world ending w) }
    by S.NoMemory e = cc e

-- what the rest of an act answers the whole does
pub answers_so : {A B : Type 0} {view : B → A} {world : World} {act rest : Act A} {w u v : Shown} {r : Result B Stop} → Leads world act w rest u → Answers view world rest u r v → Answers view world act w r v
answers_so {B = B} {view = view} {world = world} {act = act} {rest = rest} {w = w} {u = u} {v = v} {r = r} one a = by r a
  where
    by : (x : Result B Stop) → Answers view world rest u x v → Answers view world act w x v
    by (Ok b) o = record { given = runs_so one o.given; stopped = tt }
    by (Err (S.Ended ending)) o = record { given = tt; stopped = runs_so one o.stopped }
    by (Err S.NoMemory) o = record { given = tt; stopped = tt }
