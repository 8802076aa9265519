use Rattle.pw_commands_phases.proofs.SourceLemmas.{same_answer}
use Rattle.pw_commands_phases.proofs.sources.of_source.Goals as goal

pub returns-in_default-clause-answer : goal.returns-in_default-clause-answer
returns-in_default-clause-answer c = same_answer c.args.reply.answer c.in_default.not-Refused
