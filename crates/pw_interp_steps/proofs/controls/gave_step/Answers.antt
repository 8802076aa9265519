use Rattle.std.proofs.Common.{refl, ap}
use Rattle.pw_interp_calls.specs.Views.{view_env}
use Rattle.pw_interp_state.specs.Shown.{view_state}
use Rattle.pw_interp_todo.specs.declared.todo.Control.TheVariants as C
use Rattle.pw_interp_todo.specs.Resuming.{Gave, after, control_act, on_flow, on_list, on_value}
use Rattle.pw_interp_pushes.proofs.Staying.{call_end_local, call_end_parameters, call_named, call_wrong}
use Rattle.pw_interp_steps.proofs.controls.gave_step.Goals as goal

pub returns-in-Operand : goal.returns-in-Operand
unfolding after on_flow on_list on_value
returns-in-Operand c =
    let call = c.args.call.now in
    call_named (λ rest. ap (λ k. after k rest (view_env call.env) call.bound (Gave c.args.given)) c.in-Operand.is) (c.operand_step.ensures)

pub returns-in-Argument : goal.returns-in-Argument
unfolding after on_flow on_list on_value
returns-in-Argument c =
    let call = c.args.call.now in
    call_named (λ rest. ap (λ k. after k rest (view_env call.env) call.bound (Gave c.args.given)) c.in-Argument.is) (c.argument_step.ensures (view_state c.args.state.now))

pub returns-in-Value : goal.returns-in-Value
unfolding after on_flow on_list on_value
returns-in-Value c =
    let call = c.args.call.now in
    call_named (λ rest. ap (λ k. after k rest (view_env call.env) call.bound (Gave c.args.given)) c.in-Value.is) (c.value_step.ensures)

pub returns-in-EndLocal : goal.returns-in-EndLocal
unfolding after control_act
returns-in-EndLocal c =
    let call = c.args.call.now in
    let b = c.in-EndLocal in
    let x = c.end_local.ensures in
    call_named (λ rest. ap (λ k. after k rest (view_env call.env) call.bound (Gave c.args.given)) b.is)
    (call_end_local call c.end_local.new.call b.local b.number b.before (Gave c.args.given) (C.Gave c.args.given) x.env x.bound x.todo x.before x.objects (λ e n rest. refl))

pub returns-in-EndParameters : goal.returns-in-EndParameters
unfolding after control_act
returns-in-EndParameters c =
    let call = c.args.call.now in
    let b = c.in-EndParameters in
    call_named (λ rest. ap (λ k. after k rest (view_env call.env) call.bound (Gave c.args.given)) b.is)
    (call_end_parameters call b.count b.number (Gave c.args.given) (C.Gave c.args.given) c.end_parameters.ensures (λ e n rest. refl))

pub returns-in-Held : goal.returns-in-Held
unfolding after on_flow on_list on_value
returns-in-Held c =
    let call = c.args.call.now in
    call_named (λ rest. ap (λ k. after k rest (view_env call.env) call.bound (Gave c.args.given)) c.in-Held.is) (call_wrong (λ rest. refl))

pub returns-in-Call : goal.returns-in-Call
unfolding after on_flow on_list on_value
returns-in-Call c =
    let call = c.args.call.now in
    call_named (λ rest. ap (λ k. after k rest (view_env call.env) call.bound (Gave c.args.given)) c.in-Call.is) (call_wrong (λ rest. refl))

pub returns-in-Flow : goal.returns-in-Flow
unfolding after on_flow on_list on_value
returns-in-Flow c =
    let call = c.args.call.now in
    call_named (λ rest. ap (λ k. after k rest (view_env call.env) call.bound (Gave c.args.given)) c.in-Flow.is) (call_wrong (λ rest. refl))

pub returns-in-Returned : goal.returns-in-Returned
unfolding after on_flow on_list on_value
returns-in-Returned c =
    let call = c.args.call.now in
    call_named (λ rest. ap (λ k. after k rest (view_env call.env) call.bound (Gave c.args.given)) c.in-Returned.is) (call_wrong (λ rest. refl))
