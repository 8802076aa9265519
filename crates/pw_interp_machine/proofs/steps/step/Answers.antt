use Rattle.std.proofs.Common.{ap}
use Rattle.pw_interp_calls.specs.Functions.{callable_of}
use Rattle.pw_interp_calls.specs.Views.{view_env}
use Rattle.pw_interp_state.specs.Shown.{view_state}
use Rattle.pw_interp_todo.specs.Resuming.{control_act}
use Rattle.pw_interp_machine.proofs.Standings.{steps_named}
use Rattle.pw_interp_machine.proofs.steps.step.Goals as goal

pub returns-in-Ask : goal.returns-in-Ask
unfolding control_act
returns-in-Ask c =
    let call = c.args.machine.now.call in
    let main = (callable_of c.args.main).body in
    steps_named (λ rest. ap (λ x. control_act x (view_env call.env) call.bound rest) c.in-Ask.is) (c.settle.ensures main _ _ (view_state c.args.state.now) _ c.ask_step-answer.ensures)

pub returns-in-Do : goal.returns-in-Do
unfolding control_act
returns-in-Do c =
    let call = c.args.machine.now.call in
    let main = (callable_of c.args.main).body in
    steps_named (λ rest. ap (λ x. control_act x (view_env call.env) call.bound rest) c.in-Do.is) (c.settle-in-Do.ensures main _ _ (view_state c.args.state.now) _ c.do_step-answer.ensures)

pub returns-in-Arguments : goal.returns-in-Arguments
unfolding control_act
returns-in-Arguments c =
    let call = c.args.machine.now.call in
    let main = (callable_of c.args.main).body in
    steps_named (λ rest. ap (λ x. control_act x (view_env call.env) call.bound rest) c.in-Arguments.is) (c.settle-in-Arguments.ensures main _ _ (view_state c.args.state.now) _ (c.arguments_step-answer.ensures (view_state c.args.state.now)))

pub returns-in-Gave : goal.returns-in-Gave
unfolding control_act
returns-in-Gave c =
    let call = c.args.machine.now.call in
    let main = (callable_of c.args.main).body in
    steps_named (λ rest. ap (λ x. control_act x (view_env call.env) call.bound rest) c.in-Gave.is) (c.take_value.ensures)

pub returns-in-Flowed : goal.returns-in-Flowed
unfolding control_act
returns-in-Flowed c =
    let call = c.args.machine.now.call in
    let main = (callable_of c.args.main).body in
    steps_named (λ rest. ap (λ x. control_act x (view_env call.env) call.bound rest) c.in-Flowed.is) (c.take_flow.ensures main)

pub returns-in-Listed : goal.returns-in-Listed
unfolding control_act
returns-in-Listed c =
    let call = c.args.machine.now.call in
    let main = (callable_of c.args.main).body in
    steps_named (λ rest. ap (λ x. control_act x (view_env call.env) call.bound rest) c.in-Listed.is) (c.call_listed.ensures main)
