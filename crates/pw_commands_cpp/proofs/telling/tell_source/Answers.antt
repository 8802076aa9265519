use Rattle.pw_commands_cpp.proofs.TellingLemmas.{tells_other, told_other}
use Rattle.pw_commands_cpp.proofs.telling.tell_source.Goals as goal

pub returns-in_default-clause-told : goal.returns-in_default-clause-told
returns-in_default-clause-told g c = tells_other (g.S.Store.told c.args.store.now) c.args.reply.answer c.in_default.not-Refused

pub returns-in_default-clause-answer : goal.returns-in_default-clause-answer
returns-in_default-clause-answer g c = told_other c.args.reply.answer c.in_default.not-Refused
