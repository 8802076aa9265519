-- Steps in a call, of calls and of returns, as steps of the machine.
use Rattle.std.proofs.Common.{ℕ, ◌≡◌, refl, sym, ap, subst, ◌∙◌, Option, List, [], ◌∷◌, ◌++◌, Result, Ok, Err}
use Rattle.std.specs.Prelude.{IfErr}
use Rattle.pw_value.specs.declared.value.Value.{Value}
use Rattle.pw_types.specs.TypedTrees.{Statement}
use Rattle.pw_cmean.specs.Worlds.{World, Body, depth}
use Rattle.pw_cmean.specs.Acts.{Act, Outcome, State, Returned, stop, wrong, go_on, ◌>>=◌}
use Rattle.pw_cmean.specs.Evaluation.{Env}
use Rattle.pw_cmean.specs.Execution as execution
use Rattle.pw_cmean.specs.SourceRun.{finish}
use Rattle.pw_interp_state.specs.Shown.{Shown, Streams, all_shown}
use Rattle.pw_interp_state.specs.Runs.{Shows}
use Rattle.pw_interp_calls.specs.declared.ending.Ending.{Ending}
use Rattle.pw_interp_calls.specs.declared.ending.Ending.TheVariants as E
use Rattle.pw_interp_calls.specs.declared.ending.Stop.{Stop}
use Rattle.pw_interp_calls.specs.declared.ending.Stop.TheVariants as S
use Rattle.pw_interp_calls.specs.Answers.{Answers, Stops}
use Rattle.pw_interp_calls.specs.Endings.{view_ending}
use Rattle.pw_interp_calls.specs.Views.{view_env}
use Rattle.pw_interp_todo.specs.declared.todo.Control.TheVariants as C
use Rattle.pw_interp_todo.specs.Leading.{Leads}
use Rattle.pw_interp_todo.specs.Resuming.{Rest, Gave, Flowed, resume, on_value, control_act}
use Rattle.pw_interp_todo.proofs.LeadLaws.{named}
use Rattle.pw_interp_pushes.specs.declared.call.Call.{Call}
use Rattle.pw_interp_machine.specs.declared.machine.Machine.{Machine}
use Rattle.pw_interp_machine.specs.Waiting.{Active, leave, ended, goes_on, callers_act}
use Rattle.pw_interp_machine.specs.Standing.{IsCall, AreCalls, InCall, StandsAt}
use Rattle.pw_interp_pushes.specs.Staying.{StepsCall}
use Rattle.pw_interp_machine.specs.Stepping.{EndsSo, Starts, StepsAt, body_first}
use Rattle.pw_interp_machine.proofs.Callers.{callers_last, calls_last, last_of}

module _ {main : Body} {world : World} {call : Call} {callers : List Call} where
  -- what the act leads to
  stands_further : {act rest_act : Rest → Act (Unit {0})} {before behind : Shown} {end : Outcome (Unit {0})} → ((rest : Rest) → Leads world (act rest) before (rest_act rest) behind)
      → (st : Streams) → StandsAt main world call callers act (before, st) end → StandsAt main world call callers rest_act (behind, st) end
  stands_further leads st at =
      let here = at.in_call in
      let there = (leads (resume call.todo.items (ended here.active (callers_act callers at.waiting (finish main))))).leads st here.state here.shows in
      record {
        waiting = at.waiting;
        are_calls = at.are_calls;
        in_call = record { active = here.active; state = there.0; is_call = here.is_call; shows = there.1; comes = here.comes ∙ there.2 };
      }

  pub steps_further : {act rest_act : Rest → Act (Unit {0})} {before between behind : Shown} {r : Result (Unit {0}) Stop} {new : Machine}
      → ((rest : Rest) → Leads world (act rest) before (rest_act rest) between) → StepsAt main world call callers rest_act between r new behind → StepsAt main world call callers act before r new behind
  steps_further {act = act} {rest_act = rest_act} {before = before} {between = between} {behind = behind} {r = r} {new = new} leads s = by r s
    where
      by : (x : Result (Unit {0}) Stop) → StepsAt main world call callers rest_act between x new behind → StepsAt main world call callers act before x new behind
      by (Ok d) o = record { goes = λ st end at. o.goes st end (stands_further leads st at); stopped = tt }
      by (Err why) o = record { goes = tt; stopped = λ st end at. o.stopped st end (stands_further leads st at) }

  -- where the act ends the run, behind which is what the call has left to do
  pub steps_stopped : {act : Rest → Act (Unit {0})} {before behind : Shown} {r : Result (Unit {0}) Stop} {new : Machine} (why : Stop) → r ≡ Err why
      → ((rest : Rest) → Stops world (act (resume call.todo.items rest)) before why behind) → StepsAt main world call callers act before r new behind
  steps_stopped {act = act} {before = before} {behind = behind} {new = new} why is stops =
      subst (λ x. StepsAt main world call callers act before x new behind) (sym is) (record { goes = tt; stopped = λ st end at. by why stops st end at })
    where
      by : (x : Stop) → ((rest : Rest) → Stops world (act (resume call.todo.items rest)) before x behind) → (st : Streams) (end : Outcome (Unit {0})) → StandsAt main world call callers act (before, st) end → EndsSo world end x (behind, st)
      by (S.Ended ending) run st end at =
          let here = at.in_call in
          subst (λ o. Shows world o (Err (view_ending ending)) (behind, st)) (sym here.comes)
          ((run (ended here.active (callers_act callers at.waiting (finish main)))).comes st here.state here.shows)
      by S.NoMemory run st end at = tt

  -- whatever is behind it
  pub steps_stop : {act : Rest → Act (Unit {0})} {before behind : Shown} {r : Result (Unit {0}) Stop} {new : Machine} (why : Stop) → r ≡ Err why
      → ((rest : Rest) → Stops world (act rest) before why behind) → StepsAt main world call callers act before r new behind
  steps_stop why is stops = steps_stopped why is (λ rest. stops (resume call.todo.items rest))

  pub steps_no_memory : {act : Rest → Act (Unit {0})} {before behind : Shown} {r : Result (Unit {0}) Stop} {new : Machine} → r ≡ Err S.NoMemory → StepsAt main world call callers act before r new behind
  steps_no_memory {act = act} {before = before} {behind = behind} {new = new} e =
      subst (λ x. StepsAt main world call callers act before x new behind) (sym e) (record { goes = tt; stopped = λ st end at. tt })

-- an act by another name
pub steps_named : {main : Body} {world : World} {call : Call} {callers : List Call} {act other : Rest → Act (Unit {0})} {before behind : Shown} {r : Result (Unit {0}) Stop} {new : Machine}
    → ((rest : Rest) → act rest ≡ other rest) → StepsAt main world call callers other before r new behind → StepsAt main world call callers act before r new behind
steps_named same s = steps_further (λ rest. named (same rest)) s

-- ---- a step that stays in the call

pub steps_in : {main : Body} {old : Call} {act : Rest → Act (Unit {0})} {before behind : Shown} (m : Machine)
    → StepsCall old act before (Ok m.control) m.call behind → StepsAt main (view_env old.env).world old m.callers.items act before (Ok tt) m behind
steps_in {main = main} {old = old} m s = record {
  goes = λ st end at.
      let here = at.in_call in
      let there = (s.steps (ended here.active (callers_act m.callers.items at.waiting (finish main)))).goes.leads st here.state here.shows in
      record {
        waiting = at.waiting;
        are_calls = at.are_calls;
        in_call = record {
          active = here.active;
          state = there.0;
          is_call = record { room = here.is_call.room ∙ sym s.room; stands = s.stands };
          shows = there.1;
          comes = here.comes ∙ there.2;
        };
      };
  stopped = tt;
}

pub steps_out : {main : Body} {old new : Call} {callers : List Call} {act : Rest → Act (Unit {0})} {before behind : Shown} {m : Machine} {r : Result (Unit {0}) Stop} (why : Stop)
    → StepsCall old act before (Err why) new behind → r ≡ Err why → StepsAt main (view_env old.env).world old callers act before r m behind
steps_out why s is = steps_stopped why is (λ rest. (s.steps rest).stopped)

-- ---- a call with another list

module _ {main : Body} {world : World} {callers : List Call} {before : Shown} (old new : Call) (act other : Rest → Act (Unit {0}))
    (same : (rest : Rest) → act (resume old.todo.items rest) ≡ other (resume new.todo.items rest)) (room : new.before ≡ old.before) (stands : (view_env new.env).world ≡ (view_env old.env).world) where
  stands_reached : (st : Streams) {end : Outcome (Unit {0})} → StandsAt main world old callers act (before, st) end → StandsAt main world new callers other (before, st) end
  stands_reached st at =
      let here = at.in_call in
      record {
        waiting = at.waiting;
        are_calls = at.are_calls;
        in_call = record {
          active = here.active;
          state = here.state;
          is_call = record { room = here.is_call.room ∙ sym room; stands = stands ∙ here.is_call.stands };
          shows = here.shows;
          comes = here.comes ∙ ap (λ (a : Act (Unit {0})). a here.state) (same (ended here.active (callers_act callers at.waiting (finish main))));
        };
      }

  pub steps_reached : {behind : Shown} {r : Result (Unit {0}) Stop} {m : Machine} → StepsAt main world new callers other before r m behind → StepsAt main world old callers act before r m behind
  steps_reached {behind = behind} {r = r} {m = m} s = by r s
    where
      by : (x : Result (Unit {0}) Stop) → StepsAt main world new callers other before x m behind → StepsAt main world old callers act before x m behind
      by (Ok d) o = record { goes = λ st end at. o.goes st end (stands_reached st at); stopped = tt }
      by (Err why) o = record { goes = tt; stopped = λ st end at. o.stopped st end (stands_reached st at) }

-- a call that has nothing left to do is left by no flow
pub steps_unleft : {main : Body} {world : World} {callers : List Call} {before : Shown} {m : Machine} (call : Call) (e : Env) (n : ℕ) (flow : execution.Flow) → call.todo.items ≡ []
    → StepsAt main world call callers (λ rest. rest e n (Flowed flow)) before (Err (S.Ended E.Wrong)) m before
unfolding ended on_value wrong stop
steps_unleft {main = main} {world = world} {callers = callers} {before = before} call e n flow empty = record {
  goes = tt;
  stopped = λ st end at.
      let here = at.in_call in
      let rest = ended here.active (callers_act callers at.waiting (finish main)) in
      subst (λ o. Shows world o (Err (view_ending E.Wrong)) (before, st)) (sym (here.comes ∙ ap (λ todo. resume todo rest e n (Flowed flow) here.state) empty)) (refl, here.shows);
}

-- ---- a call that begins

pub steps_enter : {main : Body} {world : World} {before behind : Shown} (old : Call) (callers : List Call) (act : Act (Option Value)) (body : Statement) (m : Machine)
    → ((next : Option Value → Act (Unit {0})) (st : Streams) (s : State) → all_shown world s ≡ (before, st) → InCall world m.call (body_first body m.call) next (behind, st) ((act >>= next) s))
    → m.callers.items ≡ callers ++ old ∷ [] → ((rest : Rest) (s : State) → body_first body m.call rest s ≡ control_act m.control (view_env m.call.env) m.call.bound rest s)
    → StepsAt main world old callers (λ rest. act >>= λ r. rest (view_env old.env) old.bound (Gave r)) before (Ok tt) m behind
unfolding goes_on
steps_enter {main = main} {world = world} {behind = behind} old callers act body m begun pushed same = record {
  goes = λ st end at.
      let here = at.in_call in
      let last = here.active in
      let next = goes_on old last (callers_act callers at.waiting (finish main)) in
      let there = begun next st here.state here.shows in
      let all = at.waiting ++ last ∷ [] in
      let run : InCall world m.call (control_act m.control (view_env m.call.env) m.call.bound) next (behind, st) end = record {
        active = there.active;
        state = there.state;
        is_call = there.is_call;
        shows = there.shows;
        comes = here.comes ∙ there.comes ∙ same (resume m.call.todo.items (ended there.active next)) there.state;
      } in
      record {
        waiting = all;
        are_calls = subst (λ cs. AreCalls world cs all) (sym pushed) (calls_last world callers at.waiting old last at.are_calls here.is_call);
        in_call = subst (λ x. InCall world m.call (control_act m.control (view_env m.call.env) m.call.bound) x (behind, st) end)
            (sym (ap (λ cs. callers_act cs all (finish main)) pushed ∙ callers_last world callers at.waiting old last (finish main) at.are_calls)) run;
      };
  stopped = tt;
}

-- ---- a return

-- behind the last that a function has left to do
left_now : Active → State → State
left_now a s = record s { active = a.before; moments = Returned a.name s.objects ∷ s.moments }

ended_is : (old : Call) (e : Env) (n : ℕ) (v : Option Value) → old.todo.items ≡ [] → (a : Active) (next : Option Value → Act (Unit {0})) (s : State) → resume old.todo.items (ended a next) e n (Gave v) s ≡ next v (left_now a s)
unfolding ended on_value leave left_now ◌>>=◌ go_on
ended_is old e n v empty a next s = ap (λ todo. resume todo (ended a next) e n (Gave v) s) empty

ended_shows : {world : World} {before : Shown} (st : Streams) (old : Call) (a : Active) (s : State) → IsCall world old a → all_shown world s ≡ (before, st) → all_shown world (left_now a s) ≡ (record before { used = old.before }, st)
unfolding left_now
ended_shows {world = world} {before = before} st old a s is shows =
    ap {A = Shown × Streams} (λ x. (record x.0 { used = depth world a.before }, x.1)) shows ∙ ap {B = Shown × Streams} (λ room. (record before { used = room }, st)) is.room

module _ {main : Body} {world : World} {before : Shown} (old : Call) (e : Env) (n : ℕ) (v : Option Value) (empty : old.todo.items ≡ []) where
  -- to its caller
  pub steps_return : (callers : List Call) (m : Machine) → callers ≡ m.callers.items ++ m.call ∷ [] → m.control ≡ C.Gave v
      → StepsAt main world old callers (λ rest. rest e n (Gave v)) before (Ok tt) m (record before { used = old.before })
  unfolding goes_on control_act
  steps_return callers m popped control = record {
    goes = λ st end at.
        let here = at.in_call in
        let l = last_of world m.callers.items m.call at.waiting (subst (λ cs. AreCalls world cs at.waiting) popped at.are_calls) in
        let base = callers_act m.callers.items l.others (finish main) in
        let t = left_now here.active here.state in
        let next_is = ap (λ cs. callers_act cs at.waiting (finish main)) popped ∙ ap (λ w. callers_act (m.callers.items ++ m.call ∷ []) w (finish main)) l.all ∙ callers_last world m.callers.items l.others m.call l.last (finish main) l.are in
        record {
          waiting = l.others;
          are_calls = l.are;
          in_call = record {
            active = l.last;
            state = t;
            is_call = l.is;
            shows = ended_shows st old here.active here.state here.is_call here.shows;
            comes =
                here.comes ∙ ended_is old e n v empty here.active (callers_act callers at.waiting (finish main)) here.state ∙ ap (λ next. next v t) next_is
                ∙ ap (λ c. control_act c (view_env m.call.env) m.call.bound (resume m.call.todo.items (ended l.last base)) t) (sym control);
          };
        };
    stopped = tt;
  }

  -- the run ends with what main returned
  pub steps_finish : (callers : List Call) (m : Machine) (ending : Ending) → callers ≡ [] → finish main v ≡ stop (view_ending ending)
      → StepsAt main world old callers (λ rest. rest e n (Gave v)) before (Err (S.Ended ending)) m (record before { used = old.before })
  unfolding stop
  steps_finish callers m ending none is = record {
    goes = tt;
    stopped = λ st end at.
        let here = at.in_call in
        let t = left_now here.active here.state in
        subst (λ o. Shows world o (Err (view_ending ending)) (record before { used = old.before }, st))
        (sym (
        here.comes ∙ ended_is old e n v empty here.active (callers_act callers at.waiting (finish main)) here.state
        ∙ ap (λ cs. callers_act cs at.waiting (finish main) v t) none ∙ ap (λ act. act t) is))
        (refl, ended_shows st old here.active here.state here.is_call here.shows);
  }

-- ---- a machine that starts

pub starts_stopped : {main : Body} {world : World} {act : Act (Unit {0})} {before behind : Shown} {r : Result Machine Stop} (why : Stop) → r ≡ Err why → Stops world act before why behind → Starts main world act before r behind
starts_stopped {main = main} {world = world} {act = act} {before = before} {behind = behind} why is s = subst (λ x. Starts main world act before x behind) (sym is) (record { starts = tt; stopped = s })

-- the machine of a call that begins, which has no callers
pub starts_at : {main : Body} {world : World} (act : Act (Option Value)) {before behind : Shown} (m : Machine) (body : Statement) → m.callers.items ≡ []
    → ((rest : Rest) (s : State) → body_first body m.call rest s ≡ control_act m.control (view_env m.call.env) m.call.bound rest s)
    → ((next : Option Value → Act (Unit {0})) (st : Streams) (s : State) → all_shown world s ≡ (before, st) → InCall world m.call (body_first body m.call) next (behind, st) ((act >>= next) s))
    → Starts main world (act >>= finish main) before (Ok m) behind
starts_at {main = main} {world = world} act {behind = behind} m body none same begun = record {
  starts = λ st s e.
      let there = begun (finish main) st s e in
      let run : InCall world m.call (control_act m.control (view_env m.call.env) m.call.bound) (finish main) (behind, st) ((act >>= finish main) s) = record {
        active = there.active;
        state = there.state;
        is_call = there.is_call;
        shows = there.shows;
        comes = there.comes ∙ same (resume m.call.todo.items (ended there.active (finish main))) there.state;
      } in
      record {
        waiting = [];
        are_calls = subst (λ cs. AreCalls world cs []) (sym none) (tt {0});
        in_call = subst (λ x. InCall world m.call (control_act m.control (view_env m.call.env) m.call.bound) x (behind, st) ((act >>= finish main) s))
            (sym (ap (λ cs. callers_act cs [] (finish main)) none)) run;
      };
  stopped = tt;
}

pub starts_named : {main : Body} {world : World} {act other : Act (Unit {0})} {before behind : Shown} {r : Result Machine Stop} → act ≡ other → Starts main world other before r behind → Starts main world act before r behind
starts_named {main = main} {world = world} {before = before} {behind = behind} {r = r} same s = subst (λ a. Starts main world a before r behind) (sym same) s

pub answer_stops : {A C : Type 0} {seen : C → A} {world : World} {act : Act A} {stop : Stop} {w u : Shown} {r : Result C Stop} → Answers seen world act w r u → r ≡ Err stop → Stops world act w stop u
answer_stops {world = world} {act = act} {w = w} {u = u} a is = subst (λ x. IfErr x (λ s. Stops world act w s u)) is a.stopped
