-- Steps that stay in a call.
use Rattle.std.specs.Prelude.{◌≡◌, Result}
use Rattle.pw_cmean.specs.Acts.{Act}
use Rattle.pw_interp_state.specs.Shown.{Shown}
use Rattle.pw_interp_calls.specs.declared.ending.Stop.{Stop}
use Rattle.pw_interp_calls.specs.Views.{view_env}
use Rattle.pw_interp_todo.specs.declared.todo.Control.{Control}
use Rattle.pw_interp_todo.specs.Leading.{Continues}
use Rattle.pw_interp_todo.specs.Resuming.{Rest, resume, control_act}
use Rattle.pw_interp_pushes.specs.declared.call.Call.{Call}

-- Whatever comes behind the call: what is done now, with what the call has left to do, leads to what was to be done with what it
-- had left.
pub record StepsCall (old : Call) (act : Rest → Act (Unit {0})) (before : Shown) (result : Result Control Stop) (new : Call) (behind : Shown) : Type 0 where
  pub steps : (rest : Rest) → Continues (λ c. control_act c (view_env new.env) new.bound (resume new.todo.items rest)) (view_env old.env).world
      (act (resume old.todo.items rest)) before result behind
  pub room : new.before ≡ old.before
  pub stands : (view_env new.env).world ≡ (view_env old.env).world
