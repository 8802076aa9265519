use Rattle.std.proofs.Common.{subst}
use Rattle.std.proofs.lemmas.Result.{err_from_is_err_and}
use Rattle.pw_cmean.specs.SourceRun.{source_run}
use Rattle.pw_interp_calls.specs.Frames.{frame_among}
use Rattle.pw_interp.specs.Programs.{program_of}
use Rattle.pw_interp.specs.Streaming.{Interprets}
use Rattle.pw_interp.proofs.RunLaws.{not_begun}
use Rattle.pw_interp.proofs.StreamLaws.{memory_read, memory_write}
use Rattle.pw_interp.proofs.run.interpret.Goals as goal

pub returns-in_err-parts-clause-over : goal.returns-in_err-parts-clause-over
returns-in_err-parts-clause-over g c =
    let p = err_from_is_err_and c.from_residual.result c.from_residual.ensures.1 in
    not_begun (λ bytes. source_run (program_of c.args.modules.now) (frame_among c.args.frames.now) c.args.stack bytes c.args.bound) (g.I.Source.rest c.args.input.now) (g.O.Sink.taken c.args.out.now) c.from_residual.result p.0 p.1

pub returns-in_err-parts-clause-read : goal.returns-in_err-parts-clause-read
returns-in_err-parts-clause-read g c =
    let p = err_from_is_err_and c.from_residual.result c.from_residual.ensures.1 in
    memory_read c.from_residual.result p.0 p.1 p.2 (g.I.Source.faults c.args.input.now)

pub returns-in_err-parts-clause-write : goal.returns-in_err-parts-clause-write
returns-in_err-parts-clause-write g c =
    let p = err_from_is_err_and c.from_residual.result c.from_residual.ensures.1 in
    memory_write c.from_residual.result p.0 p.1 p.2 (g.O.Sink.faults c.args.out.now)

pub returns-clause-over : goal.returns-clause-over
returns-clause-over g c =
    subst (λ ms. Interprets (λ bytes. source_run (record { modules = ms }) (frame_among c.args.frames.now) c.args.stack bytes c.args.bound) (g.I.Source.rest c.args.input.now) (g.O.Sink.taken c.args.out.now) c.interpret_parts.result (g.I.Source.rest c.interpret_parts.new.input) (g.O.Sink.taken c.interpret_parts.new.out)) c.in_ok-parts.ensures
    (rw c.deref.ensures.value at c.interpret_parts.ensures.over)
