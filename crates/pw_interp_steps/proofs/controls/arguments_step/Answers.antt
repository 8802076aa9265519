use Rattle.std.proofs.Common.{rules, refl}
use Rattle.pw_interp_calls.specs.Views.{view_env}
use Rattle.pw_interp_todo.proofs.LeadLaws.{left_so, no_memory, same_lead}
use Rattle.pw_interp_steps.proofs.controls.arguments_step.Goals as goal

pub returns-in_err-control : goal.returns-in_err-control
returns-in_err-control c w = record { steps = λ rest. no_memory (search rules); room = refl; stands = refl }

pub returns : goal.returns
returns c w =
    let call = c.args.call.now in
    record { steps = λ rest. left_so _ refl (same_lead (λ s. c.in_ok-control.ensures (view_env call.env) call.bound rest s)); room = refl; stands = refl }
