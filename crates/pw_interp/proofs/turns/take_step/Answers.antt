use Rattle.std.proofs.Common.{◌∙◌, refl, sym}
use Rattle.std.proofs.lemmas.Result.{err_from_is_err_and}
use Rattle.pw_interp_state.specs.Shown.{view_state}
use Rattle.pw_interp.proofs.StreamLaws.{memory_read, memory_write}
use Rattle.pw_interp_calls.specs.Functions.{callable_of}
use Rattle.pw_interp.proofs.TurnLaws.{memory_alone, step_ends, step_gives_up, step_goes}
use Rattle.pw_interp.proofs.turns.take_step.Goals as goal

pub returns-in-Ok-clause-turns : goal.returns-in-Ok-clause-turns
returns-in-Ok-clause-turns c rest taken = step_goes c.args.machine.now _ (view_state c.args.state.now) _ rest taken c.in-Ok.ensures refl

pub returns-in_err-ending-in-Err-clause-turns : goal.returns-in_err-ending-in-Err-clause-turns
returns-in_err-ending-in-Err-clause-turns c rest taken =
    let p = err_from_is_err_and c.from_residual.result c.from_residual.ensures.1 in
    step_gives_up c.runs_go_on.ensures.machines (callable_of c.args.main).body c.args.machine.now c.step.new.machine (view_state c.args.state.now) (view_state c.step.new.state) rest taken c.from_residual.result p.0 p.1

pub returns-in_err-ending-in-Err-clause-read : goal.returns-in_err-ending-in-Err-clause-read
returns-in_err-ending-in-Err-clause-read c before =
    let p = err_from_is_err_and c.from_residual.result c.from_residual.ensures.1 in
    memory_read c.from_residual.result p.0 p.1 (p.2 ∙ memory_alone c.in-Err.stop _ (sym c.ending_of.ensures ∙ c.in_err-ending-in-Err.was)) before

pub returns-in_err-ending-in-Err-clause-write : goal.returns-in_err-ending-in-Err-clause-write
returns-in_err-ending-in-Err-clause-write c before =
    let p = err_from_is_err_and c.from_residual.result c.from_residual.ensures.1 in
    memory_write c.from_residual.result p.0 p.1 (p.2 ∙ memory_alone c.in-Err.stop _ (sym c.ending_of.ensures ∙ c.in_err-ending-in-Err.was)) before

pub returns-in_ok-ending-in-Err-clause-turns : goal.returns-in_ok-ending-in-Err-clause-turns
returns-in_ok-ending-in-Err-clause-turns c rest taken =
    step_ends c.args.machine.now _ (view_state c.args.state.now) _ rest taken c.in-Err.stop c.in_ok-ending-in-Err.ending c.in-Err.ensures refl (sym c.ending_of.ensures ∙ c.in_ok-ending-in-Err.was)
