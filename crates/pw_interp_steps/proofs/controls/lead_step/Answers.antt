use Rattle.std.proofs.Common.{rules, refl}
use Rattle.pw_interp_calls.specs.Views.{view_env}
use Rattle.pw_interp_todo.specs.Resuming.{Gave, resume}
use Rattle.pw_interp_todo.proofs.LeadLaws.{further, in_front, left_so, no_memory, same_lead}
use Rattle.pw_interp_pushes.proofs.Stopping.{goes_by, stops_by, stops_on}
use Rattle.pw_interp_pushes.proofs.Staying.{left_stops}
use Rattle.pw_interp_steps.proofs.controls.lead_step.Goals as goal

pub returns-in_err-next : goal.returns-in_err-next
returns-in_err-next c =
    let call = c.args.call.now in
    record { steps = λ rest. left_stops _ (search rules) (stops_on _ _ _ _ _ _ (stops_by (c.ask.ensures call.bound) c.in_err-next.was)); room = refl; stands = refl }

pub returns-in_err-control : goal.returns-in_err-control
returns-in_err-control c = record { steps = λ rest. no_memory (search rules); room = refl; stands = refl }

pub returns : goal.returns
returns c =
    let call = c.args.call.now in
    let e = view_env call.env in
    record {
      steps = λ rest. left_so _ refl (further (in_front (λ r. resume call.todo.items rest e call.bound (Gave r)) (goes_by (c.ask.ensures call.bound) c.in_ok-next.was)) (same_lead (λ s. c.in_ok-control.ensures e call.bound rest s)));
      room = refl;
      stands = refl;
    }
