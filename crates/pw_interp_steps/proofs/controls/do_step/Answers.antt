use Rattle.std.proofs.Common.{ap}
use Rattle.pw_typed.specs.Views.{view_stmt}
use Rattle.pw_cmean.specs.Acts.{◌>>=◌}
use Rattle.pw_interp_calls.specs.Views.{view_env}
use Rattle.pw_interp_todo.specs.Flows.{view_entry}
use Rattle.pw_interp_todo.specs.Parts.{part_act}
use Rattle.pw_interp_todo.specs.Resuming.{Flowed}
use Rattle.pw_interp_pushes.proofs.Staying.{call_named}
use Rattle.pw_interp_steps.proofs.controls.do_step.Goals as goal

pub returns-in-Some : goal.returns-in-Some
returns-in-Some c =
    let call = c.args.call.now in
    let e = view_env call.env in
    let d = c.args.what in
    call_named (λ rest. ap (λ p. part_act p (view_stmt d.of.now) (view_entry d.at) e call.bound >>= λ flow. rest e c.args.bound (Flowed flow)) c.in-Some.ensures) c.open_block.ensures

pub returns-in-None : goal.returns-in-None
returns-in-None c = c.begin_step.ensures
