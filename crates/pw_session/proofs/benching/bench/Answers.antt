use Rattle.std.proofs.Common.{None, ap, sym, subst}
use Rattle.pw_io.specs.Files.{Told}
use Rattle.pw_top_answer.specs.declared.answer.Answer.{Answer}
use Rattle.pw_session.specs.Bench.{BenchEffect, IsBenchLine}
use Rattle.pw_session.proofs.BenchLemmas.{alone_streams, bench_built, bench_none, bench_refused, fault_write, refused_at, refused_is, said_at, said_is, said_streams}
use Rattle.pw_session.proofs.benching.bench.Goals as goal

pub returns-in_default-clause-obeys : goal.returns-in_default-clause-obeys
returns-in_default-clause-obeys g c = λ input. bench_none (BenchEffect c.args.number c.args.opts.now input) (g.O.Sink.taken c.args.out.now)

pub returns-in-Ok-build_uncounted-clause-obeys : goal.returns-in-Ok-build_uncounted-clause-obeys
returns-in-Ok-build_uncounted-clause-obeys g c = λ input.
    bench_built c.args.number c.args.opts.now input c.in-Ok-build_uncounted.report c.in-Ok.store _ c.run_report.result (g.O.Sink.taken c.args.out.now) (g.O.Sink.taken c.run_report.new.out) (ap (λ (t : Told). t.files) c.in-Ok.ensures) c.in-Ok-build_uncounted.ensures.obeys
    c.run_report.ensures.answer c.run_report.ensures.run

pub returns-in-Ok-build_uncounted-clause-line : goal.returns-in-Ok-build_uncounted-clause-line
returns-in-Ok-build_uncounted-clause-line g c = said_at c.args.number c.run_report.result None c.run_report.ensures.answer

pub returns-in-Ok-build_uncounted-clause-streams : goal.returns-in-Ok-build_uncounted-clause-streams
returns-in-Ok-build_uncounted-clause-streams g c = λ input. said_streams c.run_report.result input (g.O.Sink.taken c.args.out.now) (g.O.Sink.taken c.run_report.new.out) c.run_report.ensures.answer

pub returns-in-Ok-build_uncounted-clause-answer : goal.returns-in-Ok-build_uncounted-clause-answer
returns-in-Ok-build_uncounted-clause-answer g c = said_is c.run_report.result c.run_report.ensures.answer

pub returns-clause-obeys : goal.returns-clause-obeys
returns-clause-obeys g c = λ input.
    rw c.answer_of.ensures (bench_refused c.args.number c.args.opts.now input c.in-Err.unbuilt c.in-Ok.store _ (g.O.Sink.taken c.args.out.now) (ap (λ (t : Told). t.files) c.in-Ok.ensures) c.in-Err.ensures.obeys c.in-Err.ensures.count)

pub returns-clause-line : goal.returns-clause-line
returns-clause-line g c =
    subst (λ (a : Answer). IsBenchLine c.args.number a c.in-Err.unbuilt.line) (sym c.answer_of.ensures)
    (refused_at c.args.number c.in-Err.unbuilt.fault c.in-Err.unbuilt.line c.in-Ok.store.files (ap (λ (t : Told). t.files) c.in-Ok.ensures) c.in-Err.ensures.line)

pub returns-clause-write : goal.returns-clause-write
returns-clause-write g c = rw c.answer_of.ensures (fault_write c.in-Err.unbuilt.fault (g.O.Sink.faults c.args.out.now))

pub returns-clause-streams : goal.returns-clause-streams
returns-clause-streams g c = λ input. alone_streams c.answer_of.result input (g.O.Sink.taken c.args.out.now)

pub returns-clause-answer : goal.returns-clause-answer
returns-clause-answer g c = rw c.answer_of.ensures (refused_is c.in-Err.unbuilt.fault c.in-Err.ensures.proper c.in-Err.ensures.count)
