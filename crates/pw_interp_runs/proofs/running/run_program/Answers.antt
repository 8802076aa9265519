use Rattle.pw_cmean.specs.SourceRun.{source_run}
use Rattle.pw_interp_calls.specs.Frames.{frame_among}
use Rattle.pw_interp.specs.Programs.{program_of}
use Rattle.std.specs.Prelude.{List, ℕ}
use Rattle.pw_interp_runs.proofs.RunLemmas.{input_count, output_count, runs_answered}
use Rattle.pw_interp_runs.proofs.running.run_program.Goals as goal

pub returns-clause-runs : goal.returns-clause-runs
returns-clause-runs g c =
    let program = c.args.program.now in
    let opts = c.args.opts.now in
    runs_answered (λ (bytes : List ℕ). source_run (program_of program.modules.items) (frame_among program.frames.items) opts.build.stack bytes opts.budget) (g.I.Source.rest c.args.input.now) c.interpret-ran.result c.answer_of.result _
    (g.O.Sink.taken c.args.out.now) _ c.answer_of.ensures.is (rw (c.deref.ensures.value, c.deref-2.ensures.value) at c.interpret-ran.ensures.over)

pub returns-clause-read : goal.returns-clause-read
returns-clause-read g c = input_count _ _ c.interpret-ran.result c.answer_of.result c.answer_of.ensures.is c.interpret-ran.ensures.read

pub returns-clause-write : goal.returns-clause-write
returns-clause-write g c = output_count _ _ c.interpret-ran.result c.answer_of.result c.answer_of.ensures.is c.interpret-ran.ensures.write
