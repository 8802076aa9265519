-- Steps that stay in a call.
use Rattle.std.proofs.Common.{ℕ, zero, suc, ◌≡◌, refl, sym, ap, subst, ◌∙◌, Option, List, [], ◌∷◌, ◌++◌, Result, Ok, Err}
use Rattle.std.specs.Borrow.{Bor}
use Rattle.pw_value.specs.declared.value.Value.{Value}
use Rattle.pw_value.specs.Objects.{Object, ended}
use Rattle.pw_typed.specs.declared.tree.TExpr.{TExpr}
use Rattle.pw_typed.specs.Views.{view_exprs}
use Rattle.pw_cmean.specs.Worlds.{World}
use Rattle.pw_cmean.specs.Acts.{Act, State, Wrong, stop, wrong, end_object, ◌>>=◌, ◌>>◌}
use Rattle.pw_cmean.specs.Evaluation.{Env, values_of}
use Rattle.pw_cmean.specs.SourceRun.{calls}
use Rattle.pw_interp_state.specs.Shown.{Shown, Streams}
use Rattle.pw_interp_state.specs.Runs.{Runs}
use Rattle.pw_interp_state.proofs.RunLaws.{given, stopped, goes_on}
use Rattle.pw_interp_calls.specs.declared.ending.Ending.TheVariants as E
use Rattle.pw_interp_calls.specs.declared.ending.Stop.{Stop}
use Rattle.pw_interp_calls.specs.declared.ending.Stop.TheVariants as S
use Rattle.pw_interp_calls.specs.Answers.{Stops}
use Rattle.pw_interp_calls.specs.Views.{view_env}
use Rattle.pw_interp_todo.specs.declared.todo.Control.{Control}
use Rattle.pw_interp_todo.specs.declared.todo.Todo.{Todo}
use Rattle.pw_interp_todo.specs.declared.todo.Todo.TheVariants as T
use Rattle.pw_interp_todo.specs.Leading.{Continues}
use Rattle.pw_interp_todo.specs.Resuming.{Rest, Told, Listed, resume, control_act, end_objects, put_back}
use Rattle.pw_interp_todo.proofs.ActLaws.{follow_same}
use Rattle.pw_interp_todo.proofs.LeadLaws.{behind_given, followed, further, left_so, named}
use Rattle.pw_interp_pushes.specs.declared.call.Call.{Call}
use Rattle.pw_interp_functions.specs.Locals.{all_ended}
use Rattle.pw_interp_pushes.specs.Staying.{StepsCall}
use Rattle.pw_interp_pushes.proofs.Pushing.{held_is}

-- an act by another name
pub call_named : {old new : Call} {act other : Rest → Act (Unit {0})} {w u : Shown} {r : Result Control Stop} → ((rest : Rest) → act rest ≡ other rest) → StepsCall old other w r new u → StepsCall old act w r new u
call_named {old = old} same s = record { steps = λ rest. followed (named (same (resume old.todo.items rest))) (s.steps rest); room = s.room; stands = s.stands }

-- what no accepted program does
pub call_wrong : {old : Call} {act : Rest → Act (Unit {0})} {w : Shown} → ((rest : Rest) → act rest ≡ wrong) → StepsCall old act w (Err (S.Ended E.Wrong)) old w
unfolding wrong
call_wrong {old = old} {w = w} same = record {
  steps = λ rest. record {
    goes = tt;
    stopped = subst (λ act. Runs (view_env old.env).world act w (Err Wrong) w) (sym (same (resume old.todo.items rest))) (stopped (view_env old.env).world Wrong w);
  };
  room = refl;
  stands = refl;
}

-- where an act ends the run
pub left_stops : {A B : Type 0} {left : B → Act A} {world : World} {act : Act A} {w u : Shown} {r : Result B Stop} (stop : Stop) → r ≡ Err stop → Stops world act w stop u → Continues left world act w r u
left_stops {left = left} {world = world} {act = act} {w = w} {u = u} stop is s = subst (λ x. Continues left world act w x u) (sym is) (record { goes = tt; stopped = s })

-- ---- objects that end

pub end_shows : (world : World) (number : ℕ) (w : Shown) → Runs world (end_object number) w (Ok tt) (record w { objects = ended number w.objects })
unfolding end_object
end_shows world number w = record { comes = λ st s e. (refl, ap {A = Shown × Streams} (λ x. (record x.0 { objects = ended number x.0.objects }, x.1)) e) }

pub ends_show : (world : World) (count number : ℕ) (w : Shown) → Runs world (end_objects count number) w (Ok tt) (record w { objects = all_ended count number w.objects })
unfolding end_objects
ends_show world zero number w = given world tt w
ends_show world (suc count) number w =
    let u : Shown = record w { objects = all_ended count (suc number) w.objects } in
    goes_on world (end_objects count (suc number)) (λ _. end_object number) w u (record w { objects = all_ended (suc count) number w.objects }) tt (Ok tt) (ends_show world count (suc number) w) (end_shows world number u)

-- the object of a local ends, and what was told goes on
pub call_end_local : {w : Shown} {objects : List Object} (old new : Call) (local number : ℕ) (before : Option ℕ) (told : Told) (control : Control)
    → view_env new.env ≡ put_back local before (view_env old.env) → new.bound ≡ old.bound → new.todo.items ≡ old.todo.items → new.before ≡ old.before → objects ≡ ended number w.objects
    → ((e : Env) (n : ℕ) (rest : Rest) → control_act control e n rest ≡ rest e n told)
    → StepsCall old (λ rest. end_object number >> rest (put_back local before (view_env old.env)) old.bound told) w (Ok control) new (record w { objects = objects })
call_end_local {w = w} {objects = objects} old new local number before told control env bound todo room ends gives =
    subst (λ os. StepsCall old (λ rest. end_object number >> rest (put_back local before (view_env old.env)) old.bound told) w (Ok control) new (record w { objects = os })) (sym ends)
    (record {
      steps = λ rest. left_so control refl
          (further (behind_given (λ d. resume old.todo.items rest (put_back local before (view_env old.env)) old.bound told) (end_shows (view_env old.env).world number w))
          (named (
          ap (λ items. resume items rest (put_back local before (view_env old.env)) old.bound told) (sym todo)
          ∙ ap (λ n. resume new.todo.items rest (put_back local before (view_env old.env)) n told) (sym bound)
          ∙ ap (λ e. resume new.todo.items rest e new.bound told) (sym env)
          ∙ sym (gives (view_env new.env) new.bound (resume new.todo.items rest)))));
      room = room;
      stands = ap (λ e. e.world) env;
    })

-- and those of parameters
pub call_end_parameters : {w : Shown} {objects : List Object} (call : Call) (count number : ℕ) (told : Told) (control : Control) → objects ≡ all_ended count number w.objects
    → ((e : Env) (n : ℕ) (rest : Rest) → control_act control e n rest ≡ rest e n told)
    → StepsCall call (λ rest. end_objects count number >> rest (view_env call.env) call.bound told) w (Ok control) call (record w { objects = objects })
call_end_parameters {w = w} {objects = objects} call count number told control ends gives =
    subst (λ os. StepsCall call (λ rest. end_objects count number >> rest (view_env call.env) call.bound told) w (Ok control) call (record w { objects = os })) (sym ends)
    (record {
      steps = λ rest. left_so control refl
          (further (behind_given (λ d. resume call.todo.items rest (view_env call.env) call.bound told) (ends_show (view_env call.env).world count number w))
          (named (sym (gives (view_env call.env) call.bound (resume call.todo.items rest)))));
      room = refl;
      stands = refl;
    })

-- an argument that is held, before those behind it
pub held_first : (todo items : List Todo) (rest : Rest) (e : Env) (n : ℕ) (v : Value) (args : Bor (List TExpr)) (token : ℕ) (s : State) → items ≡ todo ++ T.Held v ∷ []
    → (values_of (view_exprs args.now) token (calls e.world n) e >>= λ vs. resume todo rest e n (Listed (v ∷ vs))) s ≡ (values_of (view_exprs args.now) token (calls e.world n) e >>= λ vs. resume items rest e n (Listed vs)) s
held_first todo items rest e n v args token s is =
    follow_same (values_of (view_exprs args.now) token (calls e.world n) e) _ _ s (λ vs u. ap (λ (act : Act (Unit {0})). act u) (sym (ap (λ all. resume all rest e n (Listed vs)) is ∙ held_is todo rest e n v vs)))
