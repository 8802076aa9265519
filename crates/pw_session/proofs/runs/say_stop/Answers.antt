use Rattle.pw_top_answer.specs.declared.answer.Answer.TheVariants.{NoMemory}
use Rattle.pw_session.specs.Runs.{stop_line}
use Rattle.pw_session.proofs.OutputLemmas.{puts_alone}
use Rattle.pw_session.proofs.runs.say_stop.Goals as goal
use Rattle.std.proofs.Common.{refl}

pub returns-in-Err-clause-output : goal.returns-in-Err-clause-output
returns-in-Err-clause-output g c = puts_alone (stop_line c.args.answer.now) NoMemory (g.O.Sink.taken c.args.out.now) (g.O.Sink.taken c.args.out.now) (λ more. tt) refl
