-- A call of a function that the program defines, as what its body leads to.
use Rattle.std.proofs.Common.{ℕ, ◌+◌, ◌≡◌, refl, sym, ap, subst, ◌∙◌, add-one, Option, Some, List, [], ◌∷◌, length, Result, Ok, Err}
use Rattle.std.specs.Prelude.{true, false, nat_lt}
use Rattle.pw_value.specs.declared.value.Value.{Value}
use Rattle.pw_value.specs.Objects.{Object}
use Rattle.pw_types.specs.TypedTrees.{Statement, FunctionValue}
use Rattle.pw_interp_state.specs.Shown.{Shown, Streams, all_shown}
use Rattle.pw_interp_state.specs.Runs.{Runs}
use Rattle.pw_interp_state.proofs.RunLaws.{ends, stopped, active_shows, room_shows, full_shows, goes_on as runs_on}
use Rattle.pw_cmean.specs.Worlds.{World, ProgramModule, Callable, callable, full_name}
use Rattle.pw_cmean.specs.Acts.{Act, State, StackFull, Bound, give, stop, ◌>>=◌, ◌>>◌, called, during, Outcome, Gives, Ends, go_on, returned}
use Rattle.pw_cmean.specs.Evaluation.{Env, site, bounded_call, take_room, Calls, call_body, call}
use Rattle.pw_cmean.specs.Execution as execution
use Rattle.pw_cmean.specs.Execution.{Front, meaning, with_locals}
use Rattle.pw_cmean.specs.SourceRun.{calls, callee, run_body, outermost, set_parameters, result_of}
use Rattle.pw_interp_calls.specs.declared.ending.Ending.TheVariants as E
use Rattle.pw_interp_calls.specs.declared.ending.Stop.{Stop}
use Rattle.pw_interp_calls.specs.declared.ending.Stop.TheVariants as S
use Rattle.pw_interp_calls.specs.Answers.{Answers, Stops}
use Rattle.pw_interp_calls.specs.Endings.{view_ending}
use Rattle.pw_interp_calls.specs.Views.{view_env}
use Rattle.pw_interp_todo.specs.declared.todo.Todo.TheVariants as T
use Rattle.pw_interp_todo.specs.Leading.{Leads}
use Rattle.pw_interp_todo.specs.Resuming.{Rest, Flowed, after, resume, on_flow, on_value, end_objects}
use Rattle.pw_interp_todo.proofs.ActLaws.{grouped, follow_same, given_on}
use Rattle.pw_interp_todo.proofs.LeadLaws.{further, same_lead, named, in_front, behind_given, runs_so}
use Rattle.pw_interp_pushes.specs.declared.call.Call.{Call}
use Rattle.pw_interp_machine.specs.Bodies.{with_arguments}
use Rattle.pw_interp_functions.specs.Locals.{made}
use Rattle.pw_interp_machine.specs.Waiting.{Active, leave, ended}
use Rattle.pw_interp_machine.specs.Standing.{InCall}
use Rattle.pw_interp_machine.specs.Stepping.{Opened, Opens, Begins, body_first}
use Rattle.pw_interp_functions.proofs.LocalLaws.{locals_lead}
use Rattle.std.specs.Borrow.{Bor}
use Rattle.pw_typed.specs.declared.tree.TFunction.{TFunction}
use Rattle.pw_interp_world.specs.declared.program.Part.{Part}
use Rattle.pw_interp_world.specs.declared.program.Body.{Body}
use Rattle.pw_interp_world.specs.declared.program.Body.TheVariants as B
use Rattle.pw_interp_calls.specs.Functions.{callable_of}

-- while a function is active its body runs, and behind it the functions are active that were before it
pub during_is : {A B : Type 0} (name : List ℕ) (act : Act A) (next : A → Act B) (s : State)
    → (during name act >>= next) s ≡ (act >>= λ a. leave (record { name = name; before = s.active }) >> next a) (called name s)
unfolding during returned leave ◌>>=◌ go_on
during_is {A = A} {B = B} name act next s = by (act (called name s))
  where
    by : (o : Outcome A) → go_on (returned name s.active o) next ≡ go_on o (λ a. leave (record { name = name; before = s.active }) >> next a)
    by (Gives a t) = refl
    by (Ends ending t) = refl

-- what shows in a function that is called
pub called_shows : (world : World) (name : List ℕ) (s : State) (w : Shown) (st : Streams) → all_shown world s ≡ (w, st) → all_shown world (called name s) ≡ (record w { used = world.frame_of name + w.used }, st)
unfolding called
called_shows world name s w st e = ap {A = Shown × Streams} (λ x. (record x.0 { used = world.frame_of name + x.0.used }, x.1)) e

-- an answer in the same world
pub answers_in : {A B : Type 0} {view : B → A} {other world : World} {act : Act A} {w v : Shown} {r : Result B Stop} → other ≡ world → Answers view other act w r v → Answers view world act w r v
answers_in {view = view} {act = act} {w = w} {v = v} {r = r} same a = subst (λ x. Answers view x act w r v) same a

pub defined_is : (world : World) (cs : Calls) (f : Body) (part : Part) (g : Bor TFunction) (args : List Value) → f ≡ B.Defined part g
    → call world cs (callable_of f) args ≡ bounded_call cs (callable_of (B.Defined part g)) args
unfolding call call_body
defined_is world cs f part g args e = ap (λ x. call world cs (callable_of x) args) e

-- ---- functions

module _ (world : World) (m : ℕ) (f : FunctionValue) (args : List Value) (outer inner : Env) where
  -- the body of a function while it is active
  abbrev active_act : Act (Option Value)
  active_act = with_locals f.params 0 (with_arguments f (calls world m) args) outer

  -- what it leads to behind its parameters
  pub active_leads : {w v : Shown} {objects : List Object} (number : ℕ) (call : Call) (a : Active) (next : Option Value → Act (Unit {0}))
      → made f.params 0 outer w.objects ≡ (Some inner, objects) → number ≡ length w.objects
      → Runs world (set_parameters (site inner f.token) 0 args inner) (record w { objects = objects }) (Ok tt) v
      → view_env call.env ≡ inner → inner.world ≡ world → call.bound ≡ m → call.todo.items ≡ T.EndParameters f.params number ∷ T.Returned ∷ []
      → Leads world (active_act >>= λ r. leave a >> next r) w (body_first f.body call (resume call.todo.items (ended a next))) v
  unfolding body_first with_arguments after on_flow on_value ended
  active_leads {w = w} number call a next made_so numbered params env home bound todo =
      let N : Option Value → Act (Unit {0}) = λ r. leave a >> next r in
      let body : Act execution.Flow = meaning f.body Front (calls world m) inner in
      let k = length w.objects in
      let F : Option Value → Act (Option Value) = λ r. end_objects f.params k >> give r in
      let given : Rest = ended a next in
      further (in_front N (locals_lead world (with_arguments f (calls world m) args) f.params 0 outer inner w _ made_so))
      (further (in_front N (in_front F (behind_given (λ _. body >>= result_of) params)))
      (same_lead (λ s.
      grouped (body >>= result_of) F N s
      ∙ grouped body result_of (λ r. F r >>= N) s
      ∙ follow_same body _ (λ flow. resume (T.EndParameters f.params k ∷ T.Returned ∷ []) given inner m (Flowed flow)) s (λ flow t. follow_same (result_of flow) _ (λ r. end_objects f.params k >> N r) t (λ r x.
      grouped (end_objects f.params k) (λ _. give r) N x
      ∙ follow_same (end_objects f.params k) _ (λ _. N r) x (λ d y. given_on r N y)))
      ∙ ap (λ j. (body >>= λ flow. resume (T.EndParameters f.params j ∷ T.Returned ∷ []) given inner m (Flowed flow)) s) (sym numbered)
      ∙ ap (λ todo. (body >>= λ flow. resume todo given inner m (Flowed flow)) s) (sym todo)
      ∙ ap (λ b. (meaning f.body Front (calls world b) inner >>= λ flow. resume call.todo.items given inner b (Flowed flow)) s) (sym bound)
      ∙ ap (λ x. (meaning f.body Front (calls x call.bound) inner >>= λ flow. resume call.todo.items given inner call.bound (Flowed flow)) s) (sym home)
      ∙ ap (λ x. (meaning f.body Front (calls x.world call.bound) x >>= λ flow. resume call.todo.items given x call.bound (Flowed flow)) s) (sym env))))

  -- where the arguments end the run
  pub active_stops : (w v : Shown) {objects : List Object} (why : Stop) → made f.params 0 outer w.objects ≡ (Some inner, objects)
      → Stops world (set_parameters (site inner f.token) 0 args inner) (record w { objects = objects }) why v → Stops world active_act w why v
  unfolding with_arguments
  active_stops w v {objects = objects} (S.Ended ending) made_so run =
      let u = record w { objects = objects } in
      runs_so (locals_lead world (with_arguments f (calls world m) args) f.params 0 outer inner w objects made_so)
      (ends world (with_arguments f (calls world m) args inner) (λ a. end_objects f.params (length w.objects) >> give a) u v (view_ending ending)
      (ends world (set_parameters (site inner f.token) 0 args inner) (λ _. meaning f.body Front (calls world m) inner >>= result_of) u v (view_ending ending) run))
  active_stops w v S.NoMemory made_so run = tt

-- what code answers
pub opens_so : {world : World} {act : Act (Option Value)} {body : Statement} {room : ℕ} {w v : Shown} (call : Call) → Opened world act body room w call v → Opens world act body room w (Ok call) v
opens_so call o = record { opened = o; stopped = tt }

pub opens_stopped : {world : World} {act : Act (Option Value)} {body : Statement} {room : ℕ} {w v : Shown} {r : Result Call Stop} (stop : Stop) → r ≡ Err stop → Stops world act w stop v → Opens world act body room w r v
opens_stopped {world = world} {act = act} {body = body} {room = room} {w = w} {v = v} stop is s = subst (λ x. Opens world act body room w x v) (sym is) (record { opened = tt; stopped = s })

pub begins_err : {world : World} {act : Act (Option Value)} {body : Statement} {w v : Shown} {r : Result Call Stop} (stop : Stop) → r ≡ Err stop → Stops world act w stop v → Begins world act body w r v
begins_err {world = world} {act = act} {body = body} {w = w} {v = v} stop is s = subst (λ x. Begins world act body w x v) (sym is) (record { begun = tt; stopped = s })

-- ---- calls within a bound

pub bound_none : (world : World) (n : ℕ) (f : Callable) (args : List Value) → n ≡ 0 → bounded_call (calls world n) f args ≡ stop Bound
unfolding bounded_call calls
bound_none world n f args none = ap (λ k. bounded_call (calls world k) f args) none

pub bound_ends : (w : Shown) (world : World) (n : ℕ) (f : Callable) (args : List Value) (s : Stop) → n ≡ 0 → s ≡ S.Ended E.Bound → Stops world (bounded_call (calls world n) f args) w s w
bound_ends w world n f args s none is =
    subst (λ x. Stops world (bounded_call (calls world n) f args) w x w) (sym is)
    (subst (λ act. Runs world act w (Err Bound) w) (sym (bound_none world n f args none)) (stopped world Bound w))

pub bound_more : (world : World) (n m : ℕ) (f : Callable) (args : List Value) → n ≡ m + 1 → bounded_call (calls world n) f args ≡ callee world (calls world m) f args
unfolding bounded_call calls
bound_more world n m f args more = ap (λ k. bounded_call (calls world k) f args) (more ∙ add-one m)

module _ (world : World) (n m : ℕ) (home : ProgramModule) (f : FunctionValue) (args : List Value) (more : n ≡ m + 1) where
  abbrev name : List ℕ
  name = full_name home.name f.name

  abbrev its_body : Act (Option Value)
  its_body = active_act world m f args (outermost world home f) (outermost world home f)

  begins_by : bounded_call (calls world n) (callable home f) args ≡ (take_room world name >> during name its_body)
  unfolding run_body with_arguments ◌>>=◌ callee
  begins_by = bound_more world n m (callable home f) args more

  pub begins_so : {w v : Shown} (call : Call) → nat_lt world.stack (world.frame_of name + w.used) ≡ false
      → Opened world its_body f.body w.used (record w { used = world.frame_of name + w.used }) call v
      → (next : Option Value → Act (Unit {0})) (st : Streams) (s : State) → all_shown world s ≡ (w, st) → InCall world call (body_first f.body call) next (v, st) ((bounded_call (calls world n) (callable home f) args >>= next) s)
  begins_so {w = w} call room o next st s e =
      let first = in_front next (further (named begins_by) (behind_given (λ _. during name its_body) (room_shows world name w room))) in
      let one = first.leads st s e in
      let t = one.0 in
      let a : Active = record { name = name; before = t.active } in
      let two = (o.leads a next).leads st (called name t) (called_shows world name t w st one.1) in
      record {
        active = a;
        state = two.0;
        is_call = record { room = ap {A = Shown × Streams} (λ x. x.0.used) one.1 ∙ sym o.room; stands = o.stands };
        shows = two.1;
        comes = one.2 ∙ during_is name its_body next t ∙ two.2;
      }

  pub begins_stopped : (w v : Shown) (why : Stop) → nat_lt world.stack (world.frame_of name + w.used) ≡ false
      → Stops world its_body (record w { used = world.frame_of name + w.used }) why v → Stops world (bounded_call (calls world n) (callable home f) args) w why v
  begins_stopped w v (S.Ended ending) room run =
      subst (λ act. Runs world act w (Err (view_ending ending)) v) (sym begins_by)
      (runs_on world (take_room world name) (λ _. during name its_body) w w v tt (Err (view_ending ending)) (room_shows world name w room) (active_shows world name its_body w v (Err (view_ending ending)) run))
  begins_stopped w v S.NoMemory room run = tt

  pub begins_full : {w : Shown} → nat_lt world.stack (world.frame_of name + w.used) ≡ true → Stops world (bounded_call (calls world n) (callable home f) args) w (S.Ended E.StackFull) w
  begins_full {w = w} full = subst (λ act. Runs world act w (Err StackFull) w) (sym begins_by) (ends world (take_room world name) (λ _. during name its_body) w w StackFull (full_shows world name w full))

  -- the call that is opened where there is room begins
  pub begins_opened : {w v : Shown} {r : Result Call Stop} → nat_lt world.stack (world.frame_of name + w.used) ≡ false
      → Opens world its_body f.body w.used (record w { used = world.frame_of name + w.used }) r v → Begins world (bounded_call (calls world n) (callable home f) args) f.body w r v
  begins_opened {w = w} {v = v} {r = r} room opens = by r opens
    where
      by : (x : Result Call Stop) → Opens world its_body f.body w.used (record w { used = world.frame_of name + w.used }) x v → Begins world (bounded_call (calls world n) (callable home f) args) f.body w x v
      by (Ok call) o = record { begun = begins_so call room o.opened; stopped = tt }
      by (Err why) o = record { begun = tt; stopped = begins_stopped w v why room o.stopped }

  -- the call that is opened, by what the code holds
  pub framed : {w v : Shown} {r : Result Call Stop} (outer : Env) (used : ℕ) → outer ≡ outermost world home f → used ≡ world.frame_of name + w.used
      → Opens outer.world (with_locals f.params 0 (with_arguments f (calls outer.world m) args) outer) f.body w.used (record w { used = used }) r v
      → Opens world its_body f.body w.used (record w { used = world.frame_of name + w.used }) r v
  framed {w = w} {v = v} {r = r} outer used there room o =
      subst (λ u. Opens world its_body f.body w.used (record w { used = u }) r v) room
      (subst (λ (x : Env). Opens x.world (with_locals f.params 0 (with_arguments f (calls x.world m) args) x) f.body w.used (record w { used = used }) r v) there o)
