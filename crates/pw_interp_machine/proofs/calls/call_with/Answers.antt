use Rattle.std.proofs.Common.{rules}
use Rattle.pw_interp_state.specs.Shown.{view_state}
use Rattle.pw_interp_todo.proofs.LeadLaws.{in_front}
use Rattle.pw_interp_pushes.proofs.Stopping.{goes_by, stops_by, stops_on}
use Rattle.pw_interp_machine.proofs.Standings.{steps_further, steps_stop}
use Rattle.pw_interp_machine.proofs.calls.call_with.Goals as goal

pub returns-in_err-function : goal.returns-in_err-function
returns-in_err-function c main =
    let call = c.args.machine.now.call in
    let a = c.callee_of.ensures c.args.args.now call.bound (view_state c.args.state.now) in
    steps_stop _ (search rules) (λ rest. stops_on _ _ _ _ _ _ (stops_by a c.in_err-function.was))

pub returns : goal.returns
returns c main =
    let call = c.args.machine.now.call in
    let a = c.callee_of.ensures c.args.args.now call.bound (view_state c.args.state.now) in
    steps_further (λ rest. in_front _ (goes_by a c.in_ok-function.was)) (c.call_function.ensures main)
