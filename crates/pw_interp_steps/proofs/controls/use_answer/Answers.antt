use Rattle.std.proofs.Common.{rules, refl, subst}
use Rattle.std.specs.Prelude.{IfErr}
use Rattle.pw_typed.specs.Views.{view_expr}
use Rattle.pw_interp_state.specs.Shown.{view_state}
use Rattle.pw_interp_calls.specs.Answers.{Stops}
use Rattle.pw_interp_calls.specs.Views.{view_env}
use Rattle.pw_interp_calls.proofs.AnswerLaws.{given_by}
use Rattle.pw_interp_todo.specs.Asking.{answered}
use Rattle.pw_interp_todo.specs.Going.{use_act}
use Rattle.pw_interp_todo.specs.Resuming.{Flowed, resume}
use Rattle.pw_interp_todo.proofs.LeadLaws.{behind_given, followed, in_front}
use Rattle.pw_interp_pushes.proofs.Stopping.{stops_on}
use Rattle.pw_interp_pushes.proofs.Staying.{left_stops}
use Rattle.pw_interp_steps.proofs.controls.use_answer.Goals as goal

pub returns-in_err-given : goal.returns-in_err-given
returns-in_err-given c =
    let call = c.args.call.now in
    let e = view_env call.env in
    let act = answered (view_expr c.args.e.now) e call.bound in
    let stops = subst (λ x. IfErr x (λ s. Stops e.world act (view_state c.args.state.now) s (view_state c.answer_of.new.state))) c.in_err-given.was (c.answer_of.ensures call.bound).stopped in
    record { steps = λ rest. left_stops _ (search rules) (stops_on _ _ _ _ _ _ (stops_on _ _ _ _ _ _ stops)); room = refl; stands = refl }

pub returns-in_ok-given : goal.returns-in_ok-given
returns-in_ok-given c =
    let call = c.args.call.now in
    let e = view_env call.env in
    record {
      steps = λ rest. followed (in_front (λ flow. resume call.todo.items rest e c.args.bound (Flowed flow)) (behind_given (use_act c.args.what e call.bound) (given_by (c.answer_of.ensures call.bound) c.in_ok-given.was))) (c.value_step.ensures.steps rest);
      room = c.value_step.ensures.room;
      stands = c.value_step.ensures.stands;
    }

pub returns-else-is_direct : goal.returns-else-is_direct
returns-else-is_direct c = record { steps = λ rest. c.push_going.ensures (view_env c.args.call.now.env) rest (view_state c.args.state.now); room = refl; stands = refl }
