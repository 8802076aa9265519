use Rattle.std.proofs.Common.{refl}
use Rattle.pw_top_answer.specs.declared.answer.Answer.TheVariants.{NoMemory}
use Rattle.pw_top_answer.specs.Answers.{line_text}
use Rattle.pw_session.proofs.OutputLemmas.{puts_alone}
use Rattle.pw_session.proofs.lines.say_line.Goals as goal

pub returns-in-Err-clause-output : goal.returns-in-Err-clause-output
returns-in-Err-clause-output g c = puts_alone (line_text c.args.line c.args.answer.now) NoMemory (g.O.Sink.taken c.args.out.now) (g.O.Sink.taken c.args.out.now) (λ more. tt) refl
