use Rattle.pw_interp_calls.specs.Views.{view_env}
use Rattle.pw_interp_todo.specs.Resuming.{Flowed, resume}
use Rattle.pw_interp_todo.proofs.LeadLaws.{followed, in_front, same_lead}
use Rattle.pw_interp_steps.proofs.controls.flow_step.Goals as goal

pub returns : goal.returns
returns c =
    let call = c.args.call.now in
    let e = view_env call.env in
    record {
      steps = λ rest. followed (in_front (λ flow. resume call.todo.items rest e c.args.bound (Flowed flow)) (same_lead (λ s. c.remainder-going.ensures e call.bound s))) (c.go_on.ensures.steps rest);
      room = c.go_on.ensures.room;
      stands = c.go_on.ensures.stands;
    }
