-- Where an act ends the run, and where it does not.
use Rattle.std.proofs.Common.{◌≡◌, subst, Result, Ok, Err}
use Rattle.std.specs.Prelude.{IfOk, IfErr}
use Rattle.pw_cmean.specs.Worlds.{World}
use Rattle.pw_cmean.specs.Acts.{Act, ◌>>=◌}
use Rattle.pw_interp_state.specs.Shown.{Shown}
use Rattle.pw_interp_state.proofs.RunLaws.{ends}
use Rattle.pw_interp_calls.specs.declared.ending.Stop.{Stop}
use Rattle.pw_interp_calls.specs.declared.ending.Stop.TheVariants as S
use Rattle.pw_interp_calls.specs.Answers.{Stops}
use Rattle.pw_interp_calls.specs.Endings.{view_ending}
use Rattle.pw_interp_todo.specs.Leading.{Leads, Continues}

-- behind what stops
pub stops_on : {A B : Type 0} (world : World) (first : Act A) (w u : Shown) (why : Stop) (next : A → Act B) → Stops world first w why u → Stops world (first >>= next) w why u
stops_on world first w u (S.Ended ending) next run = ends world first next w u (view_ending ending) run
stops_on world first w u S.NoMemory next run = tt

-- what code answered that did the first steps
pub goes_by : {A B : Type 0} {left : B → Act A} {world : World} {act : Act A} {made : B} {w u : Shown} {r : Result B Stop} → Continues left world act w r u → r ≡ Ok made → Leads world act w (left made) u
goes_by {left = left} {world = world} {act = act} {w = w} {u = u} c is = subst (λ x. IfOk x (λ b. Leads world act w (left b) u)) is c.goes

pub stops_by : {A B : Type 0} {left : B → Act A} {world : World} {act : Act A} {stop : Stop} {w u : Shown} {r : Result B Stop} → Continues left world act w r u → r ≡ Err stop → Stops world act w stop u
stops_by {world = world} {act = act} {w = w} {u = u} c is = subst (λ x. IfErr x (λ s. Stops world act w s u)) is c.stopped
