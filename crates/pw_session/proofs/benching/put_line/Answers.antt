use Rattle.std.proofs.Common.{refl}
use Rattle.pw_top_answer.specs.declared.answer.Answer.TheVariants.{NoMemory}
use Rattle.pw_session.specs.Bench.{bench_line}
use Rattle.pw_session.proofs.OutputLemmas.{puts_alone}
use Rattle.pw_session.proofs.benching.put_line.Goals as goal

pub returns-in-Err-clause-output : goal.returns-in-Err-clause-output
returns-in-Err-clause-output g c =
    puts_alone (bench_line c.args.number c.args.report.now.image.items c.args.report.now.digest c.args.stop.now) NoMemory (g.O.Sink.taken c.args.out.now) (g.O.Sink.taken c.args.out.now) (λ more. tt) refl
