use Rattle.std.proofs.Common.{sym, ◌∙◌}
use Rattle.pw_session.proofs.BenchLemmas.{report_none, said_line_so}
use Rattle.pw_session.proofs.benching.run_report.Goals as goal

pub returns-then-is_stop-clause-run : goal.returns-then-is_stop-clause-run
returns-then-is_stop-clause-run g c =
    said_line_so c.args.number c.args.report.now.image.items c.deref.result.now c.args.report.now.digest c.args.budget c.run_of_image-stop.result c.put_line.result (g.O.Sink.taken c.args.out.now) (g.O.Sink.taken c.put_line.new.out) c.deref.ensures.value
    c.run_of_image-stop.ensures (sym c.is_stop.ensures ∙ c.if-is_stop.true) c.put_line.ensures.output

pub returns-clause-run : goal.returns-clause-run
returns-clause-run g c = report_none c.args.number c.args.report.now.image.items c.args.report.now.digest c.args.budget (g.O.Sink.taken c.args.out.now)
