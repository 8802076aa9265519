use Rattle.std.proofs.Common.{rules, refl}
use Rattle.pw_interp_calls.specs.Views.{view_env}
use Rattle.pw_interp_todo.specs.Resuming.{control_act}
use Rattle.pw_interp_todo.proofs.LeadLaws.{left_so, no_memory, same_lead, then_more, then_stops}
use Rattle.pw_interp_pushes.proofs.Staying.{held_first}
use Rattle.pw_interp_steps.proofs.controls.argument_step.Goals as goal

pub returns-in_err-value : goal.returns-in_err-value
returns-in_err-value c w = record { steps = λ rest. then_stops _ (c.used.ensures.answers w) c.in_err-value.was (search rules); room = refl; stands = refl }

pub returns-in_err-push : goal.returns-in_err-push
returns-in_err-push c w = record { steps = λ rest. no_memory (search rules); room = refl; stands = refl }

pub returns : goal.returns
unfolding control_act
returns c w =
    let call = c.args.call.now in
    let e = view_env call.env in
    record {
      steps = λ rest. then_more _ (c.used.ensures.answers w) c.in_ok-value.was
          (left_so _ refl (same_lead (λ s. held_first call.todo.items _ rest e call.bound c.in_ok-value.value c.args.args c.args.token s c.in_ok-push.ensures.items)));
      room = refl;
      stands = refl;
    }
