use Rattle.pw_top_answer.proofs.PrintLemmas.{part_out}
use Rattle.pw_top_answer.proofs.printing.print.Goals as goal

pub returns-in-Err-clause-output : goal.returns-in-Err-clause-output
returns-in-Err-clause-output g c = part_out c.args.text.now (g.O.Sink.taken c.args.out.now) (g.O.Sink.taken c.put.new.self) c.in-Err.ensures.failed
