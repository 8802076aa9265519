use Rattle.pw_session.proofs.LineLemmas.{fault_counts, fault_is_said}
use Rattle.pw_session.proofs.lines.say_fault.Goals as goal

pub returns-clause-said : goal.returns-clause-said
returns-clause-said g c =
    fault_is_said (g.S.Store.told c.args.store.now) c.args.unbuilt c.tell_source.result c.answer_of.result c.say_reply.result (g.O.Sink.taken c.args.out.now) (g.O.Sink.taken c.say_reply.new.out) c.answer_of.ensures c.tell_source.ensures.told c.tell_source.ensures.line
    c.say_reply.ensures.said

pub returns-clause-store : goal.returns-clause-store
returns-clause-store g c =
    fault_counts c.tell_source.result.answer c.answer_of.result c.say_reply.result c.args.unbuilt.fault (g.S.Store.faults c.args.store.now) (g.S.Store.faults c.tell_source.new.store) c.answer_of.ensures c.tell_source.ensures.count c.say_reply.ensures.store
