use Rattle.std.proofs.Common.{refl, ap}
use Rattle.pw_cmean.specs.Acts.{◌>>=◌}
use Rattle.pw_interp_calls.specs.Views.{view_env}
use Rattle.pw_interp_state.specs.Shown.{view_state}
use Rattle.pw_interp_todo.specs.declared.statements.Going.TheVariants as G
use Rattle.pw_interp_todo.specs.Going.{going_act}
use Rattle.pw_interp_todo.specs.Resuming.{Flowed}
use Rattle.pw_interp_pushes.proofs.Staying.{call_named}
use Rattle.pw_interp_steps.proofs.controls.use_asked.Goals as goal

pub returns-in-Answer : goal.returns-in-Answer
returns-in-Answer c =
    let call = c.args.call.now in
    let e = view_env call.env in
    call_named (λ rest. ap (λ a. going_act (G.Ask a c.args.what) e call.bound >>= λ flow. rest e c.args.bound (Flowed flow)) c.in-Answer.is) c.use_answer.ensures

pub returns-in-Place : goal.returns-in-Place
returns-in-Place c = record { steps = λ rest. c.push_going.ensures (view_env c.args.call.now.env) rest (view_state c.args.state.now); room = refl; stands = refl }
