use Rattle.std.proofs.Common.{ap}
use Rattle.pw_interp_calls.specs.Views.{view_env}
use Rattle.pw_interp_todo.specs.Asking.{asked_act}
use Rattle.pw_interp_pushes.specs.Orders.{then_gave}
use Rattle.pw_interp_pushes.proofs.Staying.{call_named}
use Rattle.pw_interp_steps.proofs.controls.ask_step.Goals as goal

pub returns-in-Answer : goal.returns-in-Answer
returns-in-Answer c =
    let call = c.args.call.now in
    let e = view_env call.env in
    call_named (λ rest. ap (λ k. then_gave (asked_act k e call.bound) rest e call.bound) c.in-Answer.is) c.answer_step.ensures
