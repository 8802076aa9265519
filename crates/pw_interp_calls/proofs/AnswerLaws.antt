-- Code that does one act behind another does both.
use Rattle.std.proofs.Common.{◌≡◌, sym, ap, subst, Bool, true, false, Some, Result, Ok, Err}
use Rattle.std.specs.Prelude.{IfOk, IfErr}
use Rattle.pw_cmean.specs.Worlds.{World}
use Rattle.pw_cmean.specs.Acts as acts
use Rattle.pw_cmean.specs.Acts.{Act, State, Ending, ◌>>=◌, give, branch}
use Rattle.pw_interp_state.specs.Shown.{Shown}
use Rattle.pw_interp_state.specs.Runs.{Runs}
use Rattle.pw_interp_state.proofs.RunLaws.{given, stopped, goes_on, ends, same_act}
use Rattle.pw_interp_calls.specs.declared.ending.Stop.{Stop}
use Rattle.pw_interp_calls.specs.declared.ending.Stop.TheVariants as S
use Rattle.pw_interp_calls.specs.Endings.{view_ending, told_stop, told}
use Rattle.pw_interp_calls.specs.Answers.{Answers, Stops}

-- what was given
pub gives : {A B : Type 0} {view : B → A} {world : World} {at : Shown} (b : B) → Answers view world (give (view b)) at (Ok b) at
gives {view = view} {world = world} {at = at} b = record { given = given world (view b) at; stopped = tt }

pub gives_as : {A B : Type 0} {view : B → A} {world : World} {at : Shown} {a : A} (b : B) → a ≡ view b → Answers view world (give a) at (Ok b) at
gives_as {view = view} {world = world} {at = at} b e = subst (λ x. Answers view world (give x) at (Ok b) at) (sym e) (gives b)

-- want of memory
pub no_memory : {A B : Type 0} {view : B → A} {world : World} {act : Act A} {before behind : Shown} {r : Result B Stop} → r ≡ Err S.NoMemory → Answers view world act before r behind
no_memory {view = view} {world = world} {act = act} {before = before} {behind = behind} e =
    subst (λ x. Answers view world act before x behind) (sym e) (record { given = tt; stopped = tt })

-- the same act by another name
pub same : {A B : Type 0} {view : B → A} {world : World} {act other : Act A} {before behind : Shown} {r : Result B Stop}
    → act ≡ other → Answers view world other before r behind → Answers view world act before r behind
same {view = view} {world = world} {before = before} {behind = behind} {r = r} e a = subst (λ x. Answers view world x before r behind) (sym e) a

-- the run that gave it
pub given_by : {A C : Type 0} {seen : C → A} {world : World} {act : Act A} {made : C} {before mid : Shown} {one : Result C Stop}
    → Answers seen world act before one mid → one ≡ Ok made → Runs world act before (Ok (seen made)) mid
given_by {seen = seen} {world = world} {act = act} {before = before} {mid = mid} a e = subst (λ x. IfOk x (λ b. Runs world act before (Ok (seen b)) mid)) e a.given

-- behind what was given, what follows decides
pub then_ok : {A B C D : Type 0} {seen : C → A} {view : D → B} {world : World} {first : Act A} {made : C} {before mid behind : Shown} {one : Result C Stop} {r : Result D Stop}
    (next : A → Act B) → Answers seen world first before one mid → one ≡ Ok made → Answers view world (next (seen made)) mid r behind → Answers view world (first >>= next) before r behind
then_ok {C = C} {seen = seen} {view = view} {world = world} {first = first} {made = made} {before = before} {mid = mid} {behind = behind} {r = r} next a e rest = by r rest (given_by a e)
  where
    by : (x : Result _ Stop) → Answers view world (next (seen made)) mid x behind → Runs world first before (Ok (seen made)) mid → Answers view world (first >>= next) before x behind
    by (Ok d) o run = record { given = goes_on world first next before mid behind (seen made) (Ok (view d)) run o.given; stopped = tt }
    by (Err (S.Ended ending)) o run = record { given = tt; stopped = goes_on world first next before mid behind (seen made) (Err (view_ending ending)) run o.stopped }
    by (Err S.NoMemory) o run = record { given = tt; stopped = tt }

-- where the first stops, both do
pub then_err : {A B C D : Type 0} {seen : C → A} {view : D → B} {world : World} {first : Act A} {stop : Stop} {before behind : Shown} {one : Result C Stop} {r : Result D Stop}
    (next : A → Act B) → Answers seen world first before one behind → one ≡ Err stop → r ≡ Err stop → Answers view world (first >>= next) before r behind
then_err {seen = seen} {view = view} {world = world} {first = first} {stop = stop} {before = before} {behind = behind} next a e is =
    subst (λ x. Answers view world (first >>= next) before x behind) (sym is)
    (by stop (subst (λ x. IfErr x (λ s. Stops world first before s behind)) e a.stopped))
  where
    by : (s : Stop) → Stops world first before s behind → Answers view world (first >>= next) before (Err s) behind
    by (S.Ended ending) run = record { given = tt; stopped = ends world first next before behind (view_ending ending) run }
    by S.NoMemory run = record { given = tt; stopped = tt }

-- what an act comes to, from a result that tells it
pub tells : {A : Type 0} {world : World} {act : Act A} {before behind : Shown} {result : Result A Stop} (r : Result A Ending)
    → told result ≡ Some r → Runs world act before r behind → Answers (λ a. a) world act before result behind
tells {A = A} {world = world} {act = act} {before = before} {behind = behind} {result = result} r e run = by result e
  where
    by : (x : Result A Stop) → told x ≡ Some r → Answers (λ a. a) world act before x behind
    by (Ok a) e = let is : r ≡ Ok a = cc e in record { given = subst (λ q. Runs world act before q behind) is run; stopped = tt }
    by (Err (S.Ended ending)) e = let is : r ≡ Err (view_ending ending) = cc e in record { given = tt; stopped = subst (λ q. Runs world act before q behind) is run }
    by (Err S.NoMemory) e = record { given = tt; stopped = tt }

-- a stop tells the same as a result
pub told_stopped : {A : Type 0} (stop : Stop) (ending : Ending) → told_stop stop ≡ Some ending → told {A = A} (Err stop) ≡ Some (Err ending)
told_stopped (S.Ended x) ending e = let is : view_ending x ≡ ending = cc e in ap (λ y. Some (Err y)) is
told_stopped S.NoMemory ending e = cc e

-- an act that does in each state what another does
pub same_at : {A B : Type 0} {view : B → A} {world : World} {act other : Act A} {before behind : Shown} {r : Result B Stop}
    → ((s : State) → act s ≡ other s) → Answers view world other before r behind → Answers view world act before r behind
same_at {view = view} {world = world} {act = act} {other = other} {before = before} {behind = behind} {r = r} e a = by r a
  where
    by : (x : Result _ Stop) → Answers view world other before x behind → Answers view world act before x behind
    by (Ok b) o = record { given = same_act world act other before behind (Ok (view b)) e o.given; stopped = tt }
    by (Err (S.Ended ending)) o = record { given = tt; stopped = same_act world act other before behind (Err (view_ending ending)) e o.stopped }
    by (Err S.NoMemory) o = record { given = tt; stopped = tt }

-- one of two acts
pub branch_on : {A B : Type 0} {view : B → A} {world : World} {yes_part : Act A} {test : Bool} {before behind : Shown} {r : Result B Stop}
    (no_part : Act A) → test ≡ true → Answers view world yes_part before r behind → Answers view world (branch test yes_part no_part) before r behind
unfolding branch
branch_on {view = view} {world = world} {yes_part = yes_part} {before = before} {behind = behind} {r = r} no_part e a =
    subst (λ t. Answers view world (branch t yes_part no_part) before r behind) (sym e) a

pub branch_off : {A B : Type 0} {view : B → A} {world : World} {no_part : Act A} {test : Bool} {before behind : Shown} {r : Result B Stop}
    (yes_part : Act A) → test ≡ false → Answers view world no_part before r behind → Answers view world (branch test yes_part no_part) before r behind
unfolding branch
branch_off {view = view} {world = world} {no_part = no_part} {before = before} {behind = behind} {r = r} yes_part e a =
    subst (λ t. Answers view world (branch t yes_part no_part) before r behind) (sym e) a

-- how a run ends
pub ends_so : {A B : Type 0} {view : B → A} {world : World} {at : Shown} {ending : Ending} {stop : Stop} → told_stop stop ≡ Some ending → Answers view world (acts.stop ending) at (Err stop) at
ends_so {A = A} {B = B} {view = view} {world = world} {at = at} {ending = ending} {stop = s} e = by s e
  where
    by : (x : Stop) → told_stop x ≡ Some ending → Answers {A = A} {B = B} view world (acts.stop ending) at (Err x) at
    by (S.Ended y) e =
        let is : ending ≡ view_ending y = cc e in
        record { given = tt; stopped = subst (λ q. Runs {A = A} world (acts.stop ending) at (Err q) at) is (stopped world ending at) }
    by S.NoMemory e = cc e
