use Rattle.std.proofs.lemmas.Result.{err_from_is_err_and}
use Rattle.pw_cmean.specs.SourceRun.{source_run}
use Rattle.pw_interp_world.specs.Views.{view_program}
use Rattle.pw_interp_calls.specs.Frames.{frame_among}
use Rattle.pw_interp.proofs.RunLaws.{not_begun}
use Rattle.pw_interp.proofs.StreamLaws.{memory_read, memory_write}
use Rattle.pw_interp.proofs.run.interpret_parts.Goals as goal

pub returns-in_err-callables-clause-over : goal.returns-in_err-callables-clause-over
returns-in_err-callables-clause-over g c =
    let p = err_from_is_err_and c.from_residual.result c.from_residual.ensures.1 in
    not_begun (λ bytes. source_run (view_program c.args.parts.now) (frame_among c.args.frames.now) c.args.stack bytes c.args.bound) (g.I.Source.rest c.args.input.now) (g.O.Sink.taken c.args.out.now) c.from_residual.result p.0 p.1

pub returns-in_err-callables-clause-read : goal.returns-in_err-callables-clause-read
returns-in_err-callables-clause-read g c =
    let p = err_from_is_err_and c.from_residual.result c.from_residual.ensures.1 in
    memory_read c.from_residual.result p.0 p.1 p.2 (g.I.Source.faults c.args.input.now)

pub returns-in_err-callables-clause-write : goal.returns-in_err-callables-clause-write
returns-in_err-callables-clause-write g c =
    let p = err_from_is_err_and c.from_residual.result c.from_residual.ensures.1 in
    memory_write c.from_residual.result p.0 p.1 p.2 (g.O.Sink.faults c.args.out.now)

pub returns-in_err-globals-clause-over : goal.returns-in_err-globals-clause-over
returns-in_err-globals-clause-over g c =
    let p = err_from_is_err_and c.from_residual-in_err-globals.result c.from_residual-in_err-globals.ensures.1 in
    not_begun (λ bytes. source_run (view_program c.args.parts.now) (frame_among c.args.frames.now) c.args.stack bytes c.args.bound) (g.I.Source.rest c.args.input.now) (g.O.Sink.taken c.args.out.now) c.from_residual-in_err-globals.result p.0 p.1

pub returns-in_err-globals-clause-read : goal.returns-in_err-globals-clause-read
returns-in_err-globals-clause-read g c =
    let p = err_from_is_err_and c.from_residual-in_err-globals.result c.from_residual-in_err-globals.ensures.1 in
    memory_read c.from_residual-in_err-globals.result p.0 p.1 p.2 (g.I.Source.faults c.args.input.now)

pub returns-in_err-globals-clause-write : goal.returns-in_err-globals-clause-write
returns-in_err-globals-clause-write g c =
    let p = err_from_is_err_and c.from_residual-in_err-globals.result c.from_residual-in_err-globals.ensures.1 in
    memory_write c.from_residual-in_err-globals.result p.0 p.1 p.2 (g.O.Sink.faults c.args.out.now)
