use Rattle.std.proofs.Common.{◌≡◌, refl, [], arith}
use Rattle.pw_interp_calls.specs.Views.{view_env}
use Rattle.pw_interp_state.specs.Shown.{view_state}
use Rattle.pw_interp_todo.specs.Flows.{view_flow}
use Rattle.pw_interp_todo.specs.Resuming.{Flowed, after}
use Rattle.pw_interp_pushes.proofs.Pushing.{nothing_in}
use Rattle.pw_interp_pushes.proofs.Pushing.{popped_is}
use Rattle.pw_interp_machine.proofs.Standings.{steps_reached, steps_unleft}
use Rattle.pw_interp_machine.proofs.steps.take_flow.Goals as goal

pub returns-in-Some : goal.returns-in-Some
returns-in-Some c main =
    let call = c.args.machine.now.call in
    let e = view_env call.env in
    let told = Flowed (view_flow c.args.flow) in
    steps_reached call (record call { todo = c.pop.new.self }) (λ rest. rest e call.bound told) (λ rest. after c.in-Some.first rest e call.bound told)
    (popped_is c.pop.new.self.items c.in-Some.first call.todo.items e call.bound told c.in-Some.ensures.items) refl refl
    (c.settle.ensures main _ _ (view_state c.args.state.now) _ c.flowed_step-answer.ensures)

pub returns-in-None : goal.returns-in-None
returns-in-None c main =
    let call = c.args.machine.now.call in
    let empty : call.todo.items ≡ [] = nothing_in call.todo.items (omega (arith, c.in-None.ensures.cases.0, call.todo.ok.0)) in
    steps_unleft call (view_env call.env) call.bound (view_flow c.args.flow) empty
