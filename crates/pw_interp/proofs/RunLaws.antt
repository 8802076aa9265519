-- What a run of a program is seen as.
use Rattle.std.proofs.Common.{ℕ, ◌+◌, ◌≡◌, sym, ap, refl, subst, ◌∙◌, Bool, true, false, List, [], ◌∷◌, ◌++◌, append-nil, take, drop, Option, Result, Ok, Err, Some, None, arith}
use Rattle.std.specs.Prelude.{IfOk, find, cond}
use Rattle.std.proofs.lemmas.List.{take-append-drop}
use Rattle.std.specs.Str.{bytes_eq}
use Rattle.pw_value.specs.Objects.{Object}
use Rattle.pw_value.specs.ProgramNames.{start_name, main_name}
use Rattle.pw_cmean.specs.Worlds.{World, Program, Callable, start_objects, function_named, functions_of}
use Rattle.pw_cmean.specs.Acts as acts
use Rattle.pw_cmean.specs.Acts.{Act, State, Outcome, Gives, Ends, Wrong, give, need, stop, go_on, wrong, ◌>>=◌}
use Rattle.pw_cmean.specs.Evaluation.{call}
use Rattle.pw_cmean.specs.Lasting.{IsLater, state_behind}
use Rattle.pw_interp_lasting.specs.Going.{GoesOnFrom}
use Rattle.pw_cmean.specs.SourceRun.{Run, seen, finish, start_state, calls, run_main}
use Rattle.pw_io.specs.Streams.{Appends}
use Rattle.pw_interp_state.specs.Shown.{Shown, Streams, shown, streams}
use Rattle.pw_interp_state.specs.Runs.{Shows}
use Rattle.pw_interp_world.specs.declared.program.LibraryFunction.{LibraryFunction}
use Rattle.pw_interp_world.specs.declared.program.LibraryFunction.TheVariants as L
use Rattle.pw_interp_world.specs.declared.program.Body.TheVariants as B
use Rattle.pw_interp_calls.specs.declared.ending.Ending.{Ending}
use Rattle.pw_interp_calls.specs.declared.ending.Ending.TheVariants as E
use Rattle.pw_interp_calls.specs.declared.ending.Stop.{Stop}
use Rattle.pw_interp_calls.specs.declared.ending.Stop.TheVariants as S
use Rattle.pw_interp_calls.specs.Endings.{view_ending}
use Rattle.pw_interp_calls.specs.Functions.{callable_of}
use Rattle.pw_interp_calls.specs.Answers.{Stops}
use Rattle.pw_interp.specs.declared.ends.CEnd.{CEnd}
use Rattle.pw_interp.specs.declared.ends.InterpFault.{InterpFault}
use Rattle.pw_interp.specs.Ends.{ending_of, view_end}
use Rattle.pw_interp.specs.Streaming.{EndsOver, GivenUp, Interprets, LeftBy, RunsOver, StandsStill, Stopped, StopsOver, unread}
use Rattle.pw_interp.proofs.StreamLaws.{behind_more, carried_first, front_read, if_some, nothing_appended}

-- ---- main

-- the first that passes, or else one behind it
first_or : {X : Type 0} (p : X → Bool) (y x : X) (rest : Option X) (b : Bool) → p y ≡ b → cond b (Some y) rest ≡ Some x → (rest ≡ Some x → p x ≡ true) → p x ≡ true
first_or p y x rest true e is more = let same : y ≡ x = cc is in ap p (sym same) ∙ e
first_or p y x rest false e is more = more is

found_fits : {X : Type 0} (p : X → Bool) (xs : List X) (x : X) → find p xs ≡ Some x → p x ≡ true
found_fits p [] x is = cc is
found_fits p (y ∷ ys) x is = first_or p y x (find p ys) (p y) refl is (λ k. found_fits p ys x k)

-- no function of the library is called main
library_names : (g : LibraryFunction) → bytes_eq (callable_of (B.Library g)).name main_name ≡ false
library_names L.GetChar = refl
library_names L.PutChar = refl
library_names L.ExitRun = refl

pub no_library_main : {A : Type 0} (program : Program) (g : LibraryFunction) → Some (callable_of (B.Library g)) ≡ function_named program main_name → A
no_library_main program g is =
    let named : bytes_eq (callable_of (B.Library g)).name main_name ≡ true = found_fits (λ f. bytes_eq f.name main_name) (functions_of program) (callable_of (B.Library g)) (sym is) in
    let apart : true ≡ false = sym named ∙ library_names g in
    cc apart

module _ (world : World) (bound : ℕ) where
  pub main_there : (f : Callable) → function_named world.program main_name ≡ Some f → (s : State) → run_main world bound s ≡ (call world (calls world bound) f [] >>= finish f.body) s
  unfolding run_main need give ◌>>=◌ go_on
  main_there f is s = ap (λ o. (need o >>= λ main. call world (calls world bound) main [] >>= finish main.body) s) is

  pub no_main : function_named world.program main_name ≡ None → (s : State) → run_main world bound s ≡ stop Wrong s
  unfolding run_main need wrong stop ◌>>=◌ go_on
  no_main is s = ap (λ o. (need o >>= λ main. call world (calls world bound) main [] >>= finish main.body) s) is

-- ---- how runs end

-- a run goes on from the streams of its state
later_from : (s t : State) (st : Streams) → streams s ≡ st → IsLater s t → GoesOnFrom st t
later_from s t st is p = subst (λ x. GoesOnFrom x t) is (record { written = p.written; taken = p.taken })

-- what ended so without a byte
pub stops_over : (world : World) (act : Act (Unit {0})) (before behind : Shown) (rest taken : Option (List ℕ)) (why : Stop) (r : Result Ending InterpFault) → r ≡ ending_of why → Stops world act before why behind
    → ((s : State) → IsLater s (state_behind (act s))) → RunsOver world act before rest taken r behind rest taken
stops_over world act before behind rest taken why r is stops later =
    subst (λ x. RunsOver world act before rest taken x behind rest taken) (sym is) (by why stops)
  where
    by : (x : Stop) → Stops world act before x behind → RunsOver world act before rest taken (ending_of x) behind rest taken
    by (S.Ended ending) run = if_some rest (λ bytes told s e. record { streams = unread bytes; carried = carried_first bytes taken rest told; shows = run.comes (unread bytes) s e })
    by S.NoMemory run = if_some rest (λ bytes told s e. record { streams = unread bytes; carried = carried_first bytes taken rest told; later = later_from s _ (unread bytes) (ap {A = Shown × Streams} (λ x. x.1) e) (later s) })

pub over_named : (world : World) {act other : Act (Unit {0})} (before behind : Shown) (rest taken rest' taken' : Option (List ℕ)) (r : Result Ending InterpFault) → ((s : State) → act s ≡ other s)
    → RunsOver world other before rest taken r behind rest' taken' → RunsOver world act before rest taken r behind rest' taken'
over_named world {act = act} {other = other} before behind rest taken rest' taken' r same over = by rest over
  where
    by : (o : Option (List ℕ)) → RunsOver world other before o taken r behind rest' taken' → RunsOver world act before o taken r behind rest' taken'
    by None over = tt
    by (Some bytes) over = λ s e. subst (λ o. Stopped r behind world o bytes taken rest' taken') (sym (same s)) (over s e)

-- a run without main
pub over_wrong : (world : World) (before : Shown) (rest taken : Option (List ℕ)) → RunsOver world (stop Wrong) before rest taken (Ok E.Wrong) before rest taken
unfolding stop
over_wrong world before rest taken = if_some rest (λ bytes told s e. record { streams = unread bytes; carried = carried_first bytes taken rest told; shows = (refl, e) })

-- what is seen of a run that ended so
seen_is : (world : World) (o : Outcome (Unit {0})) (ending : acts.Ending) (now : Shown) (st : Streams) → Shows world o (Err ending) (now, st) → seen o ≡ record { end = ending; out = st.out; read = st.read }
seen_is world (Gives d t) ending now st (is, at) = cc is
seen_is world (Ends other t) ending now st (is, at) =
    let same : other ≡ ending = cc is in
    ap (λ x. record { end = x; out = t.out; read = t.read }) same ∙ ap {A = Shown × Streams} {B = Run} (λ v. record { end = ending; out = v.1.out; read = v.1.read }) at

pub ends_over : {world : World} {o : Outcome (Unit {0})} {now : Shown} (ending : Ending) (end : CEnd) (bytes : List ℕ) (taken rest' taken' : Option (List ℕ)) → view_end end ≡ view_ending ending
    → StopsOver ending now world o bytes taken rest' taken' → EndsOver (seen o) bytes taken end rest' taken'
ends_over {world = world} {o = o} {now = now} ending end bytes taken rest' taken' same s =
    let st = s.streams in
    let is = seen_is world o (view_ending ending) now st s.shows in
    record {
      ends = ap (λ (r : Run). r.end) is ∙ sym same;
      left = s.carried.left ∙ ap Some s.carried.read ∙ ap (λ (r : Run). Some (drop r.read bytes)) (sym is);
      took = subst (λ (r : Run). Appends taken taken' r.out) (sym is) s.carried.took;
    }

-- ---- runs that are given up

seen_out : (o : Outcome (Unit {0})) → (seen o).out ≡ (state_behind o).out
seen_out (Gives d t) = refl
seen_out (Ends ending t) = refl

seen_read : (o : Outcome (Unit {0})) → (seen o).read ≡ (state_behind o).read
seen_read (Gives d t) = refl
seen_read (Ends ending t) = refl

pub still_given_up : (o : Outcome (Unit {0})) (bytes : List ℕ) (taken rest' taken' : Option (List ℕ)) → StandsStill o bytes taken rest' taken' → GivenUp (seen o) bytes taken rest' taken'
still_given_up o bytes taken rest' taken' g =
    let st = g.streams in
    let t = state_behind o in
    let all = g.later.taken in
    record {
      output = st.out;
      more = g.later.written.0;
      written = seen_out o ∙ g.later.written.1;
      took = g.carried.took;
      front = take st.read bytes;
      left = st.rest;
      rest_is = g.carried.left;
      read = front_read bytes st g.carried.read;
      unread = all.0;
      behind = all.1 ∙ ap (λ (x : List ℕ). all.0 ++ x) (behind_more bytes all.0 t.rest st t.read g.carried.read all.1 all.2 ∙ ap (λ (n : ℕ). drop n bytes) (sym (seen_read o)));
    }

-- where a run ended, but its end was not told
ended_given_up : (world : World) (o : Outcome (Unit {0})) (now : Shown) (ending : Ending) (bytes : List ℕ) (taken rest' taken' : Option (List ℕ)) → StopsOver ending now world o bytes taken rest' taken' → GivenUp (seen o) bytes taken rest' taken'
ended_given_up world o now ending bytes taken rest' taken' s =
    let st = s.streams in
    let is = seen_is world o (view_ending ending) now st s.shows in
    record {
      output = st.out;
      more = [];
      written = ap (λ (r : Run). r.out) is ∙ sym (append-nil st.out);
      took = s.carried.took;
      front = take st.read bytes;
      left = st.rest;
      rest_is = s.carried.left;
      read = front_read bytes st s.carried.read;
      unread = [];
      behind = s.carried.read ∙ ap (λ (r : Run). drop r.read bytes) (sym is);
    }

pub owned_over : {world : World} {o : Outcome (Unit {0})} {now : Shown} (ending : Ending) (r : Result CEnd InterpFault) (bytes : List ℕ) (taken rest' taken' : Option (List ℕ)) → IfOk r (λ end. view_end end ≡ view_ending ending)
    → StopsOver ending now world o bytes taken rest' taken' → LeftBy (seen o) bytes taken r rest' taken'
owned_over ending (Ok end) bytes taken rest' taken' same s = ends_over ending end bytes taken rest' taken' same s
owned_over {world = world} {o = o} {now = now} ending (Err fault) bytes taken rest' taken' same s = ended_given_up world o now ending bytes taken rest' taken' s

-- a run that has not begun
pub not_begun : (run : List ℕ → Run) (rest taken : Option (List ℕ)) (r : Result CEnd InterpFault) (fault : InterpFault) → r ≡ Err fault → Interprets run rest taken r rest taken
not_begun run rest taken r fault is = subst (λ (x : Result CEnd InterpFault). Interprets run rest taken x rest taken) (sym is) (if_some rest (λ bytes told. record {
  output = [];
  more = (run bytes).out;
  written = refl;
  took = nothing_appended taken;
  front = [];
  left = bytes;
  rest_is = told;
  read = refl;
  unread = take (run bytes).read bytes;
  behind = sym (take-append-drop (run bytes).read bytes);
}))

-- one that was given up by what was answered before
pub left_up : (run : Run) (bytes : List ℕ) (taken rest' taken' : Option (List ℕ)) (r : Result CEnd InterpFault) (fault : InterpFault) → r ≡ Err fault → GivenUp run bytes taken rest' taken' → LeftBy run bytes taken r rest' taken'
left_up run bytes taken rest' taken' r fault is given = subst (λ (x : Result CEnd InterpFault). LeftBy run bytes taken x rest' taken') (sym is) given

-- ---- the start

pub start_shows : (world : World) (objects : List Object) (used : ℕ) (bytes : List ℕ) → objects ≡ start_objects world.program → used ≡ world.frame_of start_name
    → record { objects = objects; used = used } ≡ shown world (start_state world.program bytes)
start_shows world objects used bytes a b =
    let more : used ≡ world.frame_of start_name + 0 = b ∙ omega arith in
    ap {B = Shown} (λ x. record { objects = x; used = used }) a ∙ ap {B = Shown} (λ x. record { objects = start_objects world.program; used = x }) more
