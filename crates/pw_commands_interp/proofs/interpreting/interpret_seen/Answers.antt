use Rattle.pw_commands_interp.proofs.BuildLemmas.{read_did, unread_did}
use Rattle.pw_commands_interp.proofs.LineLemmas.{fault_proper, fault_reads, fault_streams, fault_writes, line_read, line_unread}
use Rattle.pw_commands_interp.proofs.interpreting.interpret_seen.Goals as goal

pub returns-in-Ok-clause-did : goal.returns-in-Ok-clause-did
returns-in-Ok-clause-did g c =
    read_did c.files_are_seen_in_one_way.ensures c.args.opts.now c.in-Ok.modules.items (g.S.Store.told c.args.store.now) _ (g.I.Source.rest c.args.input.now) _ (g.O.Sink.taken c.args.out.now) _ c.interpret_counted.result.answer c.in-Ok.ensures.modules
    c.modules_to_build.ensures.same (rw c.deref.ensures.value at c.interpret_counted.ensures.did)

pub returns-in-Ok-clause-line : goal.returns-in-Ok-clause-line
returns-in-Ok-clause-line g c =
    line_read c.files_are_seen_in_one_way.ensures c.in-Ok.modules.items (g.S.Store.told c.args.store.now) c.interpret_counted.result c.in-Ok.ensures.modules (rw c.deref.ensures.value at c.interpret_counted.ensures.line)

pub returns-in-Err-clause-did : goal.returns-in-Err-clause-did
returns-in-Err-clause-did g c =
    unread_did c.modules_have_one_build.ensures.answer c.files_are_seen_in_one_way.ensures c.args.opts.now c.requires.colours (g.S.Store.told c.args.store.now) (g.I.Source.rest c.args.input.now) (g.O.Sink.taken c.args.out.now) c.in-Err.unbuilt.fault c.answer_of.result c.answer_of.ensures
    c.in-Err.ensures.fault

pub returns-in-Err-clause-line : goal.returns-in-Err-clause-line
returns-in-Err-clause-line g c = line_unread (g.S.Store.told c.args.store.now) c.in-Err.unbuilt.fault c.answer_of.result c.in-Err.unbuilt.line c.answer_of.ensures c.in-Err.ensures.line

pub returns-in-Err-clause-answer : goal.returns-in-Err-clause-answer
returns-in-Err-clause-answer g c = fault_proper c.in-Err.unbuilt.fault c.answer_of.result c.answer_of.ensures c.in-Err.ensures.proper

pub returns-in-Err-clause-store : goal.returns-in-Err-clause-store
returns-in-Err-clause-store g c = rw c.answer_of.ensures c.in-Err.ensures.count

pub returns-in-Err-clause-read : goal.returns-in-Err-clause-read
returns-in-Err-clause-read g c = fault_reads _ c.in-Err.unbuilt.fault c.answer_of.result c.answer_of.ensures

pub returns-in-Err-clause-write : goal.returns-in-Err-clause-write
returns-in-Err-clause-write g c = fault_writes _ c.in-Err.unbuilt.fault c.answer_of.result c.answer_of.ensures

pub returns-in-Err-clause-streams : goal.returns-in-Err-clause-streams
returns-in-Err-clause-streams g c = fault_streams c.in-Err.unbuilt.fault c.answer_of.result (g.I.Source.rest c.args.input.now) (g.O.Sink.taken c.args.out.now) c.answer_of.ensures
