use Rattle.std.proofs.Common.{ap}
use Rattle.pw_cmean.specs.Acts.{◌>>=◌}
use Rattle.pw_cmean.specs.Evaluation as meaning
use Rattle.pw_cmean.specs.SourceRun as runs
use Rattle.pw_interp_state.specs.Shown.{view_state}
use Rattle.pw_interp_calls.specs.Functions.{callable_of}
use Rattle.pw_interp_calls.specs.Views.{view_env}
use Rattle.pw_interp_todo.specs.Resuming.{Gave}
use Rattle.pw_interp_machine.proofs.Entering.{defined_is}
use Rattle.pw_interp_machine.proofs.Standings.{steps_named}
use Rattle.pw_interp_machine.proofs.calls.call_function.Goals as goal

pub returns-in-Library : goal.returns-in-Library
returns-in-Library c main =
    let call = c.args.machine.now.call in
    let e = view_env call.env in
    steps_named (λ rest. ap (λ f. meaning.call e.world (runs.calls e.world call.bound) (callable_of f) c.args.args.now >>= λ r. rest e call.bound (Gave r)) c.in-Library.is)
    (c.settle.ensures main call _ (view_state c.args.state.now) _ (c.transferred.ensures call _ (view_state c.args.state.now) _ (c.call_library-answer.ensures call.bound)))

pub returns-in-Defined : goal.returns-in-Defined
returns-in-Defined c main =
    let call = c.args.machine.now.call in
    let e = view_env call.env in
    steps_named (λ rest. ap (λ act. act >>= λ r. rest e call.bound (Gave r)) (defined_is e.world (runs.calls e.world call.bound) c.args.function _ _ c.args.args.now c.in-Defined.is))
    (c.enter.ensures main e.world _ (view_state c.args.state.now) _ c.begin_bounded-begun.ensures)
