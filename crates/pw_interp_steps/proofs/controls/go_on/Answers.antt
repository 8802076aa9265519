use Rattle.std.proofs.Common.{refl, ap}
use Rattle.pw_cmean.specs.Acts.{◌>>=◌}
use Rattle.pw_interp_calls.specs.Views.{view_env}
use Rattle.pw_interp_state.specs.Shown.{view_state}
use Rattle.pw_interp_todo.specs.Going.{going_act}
use Rattle.pw_interp_todo.specs.Resuming.{Flowed}
use Rattle.pw_interp_pushes.proofs.Staying.{call_named}
use Rattle.pw_interp_steps.proofs.controls.go_on.Goals as goal

pub returns-in-Ask : goal.returns-in-Ask
returns-in-Ask c =
    let call = c.args.call.now in
    let e = view_env call.env in
    call_named (λ rest. ap (λ g. going_act g e call.bound >>= λ flow. rest e c.args.bound (Flowed flow)) c.in-Ask.is) c.use_asked.ensures

pub returns-in_default : goal.returns-in_default
returns-in_default c = record { steps = λ rest. c.push_going.ensures (view_env c.args.call.now.env) rest (view_state c.args.state.now); room = refl; stands = refl }
