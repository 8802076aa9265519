use Rattle.std.proofs.Common.{rules, refl}
use Rattle.pw_interp_calls.specs.Views.{view_env}
use Rattle.pw_interp_todo.specs.Resuming.{Flowed, resume}
use Rattle.pw_interp_todo.proofs.LeadLaws.{followed, in_front}
use Rattle.pw_interp_pushes.proofs.Stopping.{goes_by, stops_by, stops_on}
use Rattle.pw_interp_pushes.proofs.Staying.{left_stops}
use Rattle.pw_interp_steps.proofs.controls.begin_step.Goals as goal

pub returns-in_err-going : goal.returns-in_err-going
returns-in_err-going c =
    let call = c.args.call.now in
    record { steps = λ rest. left_stops _ (search rules) (stops_on _ _ _ _ _ _ (stops_by (c.begin.ensures call.bound) c.in_err-going.was)); room = refl; stands = refl }

pub returns : goal.returns
returns c =
    let call = c.args.call.now in
    let e = view_env call.env in
    record {
      steps = λ rest. followed (in_front (λ flow. resume call.todo.items rest e c.args.bound (Flowed flow)) (goes_by (c.begin.ensures call.bound) c.in_ok-going.was)) (c.go_on.ensures.steps rest);
      room = c.go_on.ensures.room;
      stands = c.go_on.ensures.stands;
    }
