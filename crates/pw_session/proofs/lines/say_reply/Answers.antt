use Rattle.pw_session.proofs.LineLemmas.{says_reply, stores_alike}
use Rattle.pw_session.proofs.TurnLemmas.{say_is_line}
use Rattle.pw_session.proofs.lines.say_reply.Goals as goal

pub returns-in_default-clause-said : goal.returns-in_default-clause-said
returns-in_default-clause-said g c =
    says_reply c.args.reply.now.answer c.args.reply.now.line c.say_line.result (g.O.Sink.taken c.args.out.now) (g.O.Sink.taken c.say_line.new.out) c.in_default.not-StoreFault c.in_default.not-NoMemory c.say_line.ensures.output c.say_line.ensures.answer

pub returns-in_default-clause-answer : goal.returns-in_default-clause-answer
returns-in_default-clause-answer g c = say_is_line c.say_line.result c.say_line.ensures.answer

pub returns-in_default-clause-store : goal.returns-in_default-clause-store
returns-in_default-clause-store g c = stores_alike c.args.reply.now.answer c.say_line.result c.in_default.not-StoreFault c.say_line.ensures.answer
