use Rattle.std.proofs.Common.{refl, ap}
use Rattle.pw_interp_calls.specs.Views.{view_env}
use Rattle.pw_interp_state.specs.Shown.{view_state}
use Rattle.pw_interp_todo.specs.Flows.{view_flow}
use Rattle.pw_interp_todo.specs.declared.todo.Control.TheVariants as C
use Rattle.pw_interp_todo.specs.Resuming.{Flowed, after, control_act, on_flow, on_list, on_value}
use Rattle.pw_interp_pushes.proofs.Staying.{call_end_local, call_end_parameters, call_named, call_wrong}
use Rattle.pw_interp_steps.proofs.controls.flowed_step.Goals as goal

pub returns-in-Flow : goal.returns-in-Flow
unfolding after on_flow on_list on_value
returns-in-Flow c =
    let call = c.args.call.now in
    call_named (λ rest. ap (λ k. after k rest (view_env call.env) call.bound (Flowed (view_flow c.args.flow))) c.in-Flow.is) c.flow_step.ensures

pub returns-in-Returned : goal.returns-in-Returned
unfolding after on_flow on_list on_value
returns-in-Returned c =
    let call = c.args.call.now in
    call_named (λ rest. ap (λ k. after k rest (view_env call.env) call.bound (Flowed (view_flow c.args.flow))) c.in-Returned.is) (c.given.ensures call _ (view_state c.args.state.now) _ (c.result_of.ensures (view_env call.env).world (view_state c.args.state.now)))

pub returns-in-EndLocal : goal.returns-in-EndLocal
unfolding after control_act
returns-in-EndLocal c =
    let call = c.args.call.now in
    let b = c.in-EndLocal in
    let x = c.end_local.ensures in
    call_named (λ rest. ap (λ k. after k rest (view_env call.env) call.bound (Flowed (view_flow c.args.flow))) b.is)
    (call_end_local call c.end_local.new.call b.local b.number b.before (Flowed (view_flow c.args.flow)) (C.Flowed c.args.flow) x.env x.bound x.todo x.before x.objects (λ e n rest. refl))

pub returns-in-EndParameters : goal.returns-in-EndParameters
unfolding after control_act
returns-in-EndParameters c =
    let call = c.args.call.now in
    let b = c.in-EndParameters in
    call_named (λ rest. ap (λ k. after k rest (view_env call.env) call.bound (Flowed (view_flow c.args.flow))) b.is)
    (call_end_parameters call b.count b.number (Flowed (view_flow c.args.flow)) (C.Flowed c.args.flow) c.end_parameters.ensures (λ e n rest. refl))

pub returns-in-Operand : goal.returns-in-Operand
unfolding after on_flow on_list on_value
returns-in-Operand c =
    let call = c.args.call.now in
    call_named (λ rest. ap (λ k. after k rest (view_env call.env) call.bound (Flowed (view_flow c.args.flow))) c.in-Operand.is) (call_wrong (λ rest. refl))

pub returns-in-Argument : goal.returns-in-Argument
unfolding after on_flow on_list on_value
returns-in-Argument c =
    let call = c.args.call.now in
    call_named (λ rest. ap (λ k. after k rest (view_env call.env) call.bound (Flowed (view_flow c.args.flow))) c.in-Argument.is) (call_wrong (λ rest. refl))

pub returns-in-Held : goal.returns-in-Held
unfolding after on_flow on_list on_value
returns-in-Held c =
    let call = c.args.call.now in
    call_named (λ rest. ap (λ k. after k rest (view_env call.env) call.bound (Flowed (view_flow c.args.flow))) c.in-Held.is) (call_wrong (λ rest. refl))

pub returns-in-Call : goal.returns-in-Call
unfolding after on_flow on_list on_value
returns-in-Call c =
    let call = c.args.call.now in
    call_named (λ rest. ap (λ k. after k rest (view_env call.env) call.bound (Flowed (view_flow c.args.flow))) c.in-Call.is) (call_wrong (λ rest. refl))

pub returns-in-Value : goal.returns-in-Value
unfolding after on_flow on_list on_value
returns-in-Value c =
    let call = c.args.call.now in
    call_named (λ rest. ap (λ k. after k rest (view_env call.env) call.bound (Flowed (view_flow c.args.flow))) c.in-Value.is) (call_wrong (λ rest. refl))
