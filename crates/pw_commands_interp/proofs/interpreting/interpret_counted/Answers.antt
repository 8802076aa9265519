use Rattle.std.proofs.Common.{map}
use Rattle.pw_store_modules.specs.Views.{source}
use Rattle.pw_commands_interp.proofs.BuildLemmas.{refused_did, run_did}
use Rattle.pw_commands_interp.proofs.LineLemmas.{fault_proper, fault_reads, fault_streams, fault_writes, line_of_fault, line_of_reply, reply_proper, reply_read, reply_store, reply_streams, reply_write}
use Rattle.pw_commands_interp.proofs.interpreting.interpret_counted.Goals as goal

pub returns-in-Ok-clause-did : goal.returns-in-Ok-clause-did
returns-in-Ok-clause-did g c =
    run_did c.modules_have_one_build.ensures.answer c.kept_objects_are_seen.ensures c.args.opts.now c.requires.colours c.args.modules.now c.as_slice-image.result.now (g.S.Store.told c.args.store.now) (g.I.Source.rest c.args.input.now) _ (g.O.Sink.taken c.args.out.now) _
    c.in-Ok.linked.files c.in-Ok.linked.objects.items c.run_linked-answer.result c.with_line.result c.as_slice-image.ensures.value c.in-Ok.ensures.files c.run_linked-answer.ensures.typed c.run_linked-answer.ensures.runs c.with_line.ensures

pub returns-in-Ok-clause-line : goal.returns-in-Ok-clause-line
returns-in-Ok-clause-line g c = line_of_reply (map source c.args.modules.now) c.run_linked-answer.result c.with_line.result c.run_linked-answer.ensures.answer c.with_line.ensures

pub returns-in-Ok-clause-answer : goal.returns-in-Ok-clause-answer
returns-in-Ok-clause-answer g c = reply_proper (map source c.args.modules.now) c.run_linked-answer.result c.with_line.result c.run_linked-answer.ensures.answer c.with_line.ensures

pub returns-in-Ok-clause-store : goal.returns-in-Ok-clause-store
returns-in-Ok-clause-store g c = reply_store (map source c.args.modules.now) c.run_linked-answer.result c.with_line.result _ _ c.run_linked-answer.ensures.answer c.in-Ok.ensures.count c.with_line.ensures

pub returns-in-Ok-clause-read : goal.returns-in-Ok-clause-read
returns-in-Ok-clause-read g c = reply_read (map source c.args.modules.now) c.run_linked-answer.result c.with_line.result _ _ c.run_linked-answer.ensures.read c.with_line.ensures

pub returns-in-Ok-clause-write : goal.returns-in-Ok-clause-write
returns-in-Ok-clause-write g c = reply_write (map source c.args.modules.now) c.run_linked-answer.result c.with_line.result _ _ c.run_linked-answer.ensures.write c.with_line.ensures

pub returns-in-Ok-clause-streams : goal.returns-in-Ok-clause-streams
returns-in-Ok-clause-streams g c = reply_streams (map source c.args.modules.now) c.run_linked-answer.result c.with_line.result _ _ _ _ c.run_linked-answer.ensures.answer c.with_line.ensures

pub returns-clause-did : goal.returns-clause-did
returns-clause-did g c =
    refused_did c.modules_have_one_build.ensures.answer c.kept_objects_are_seen.ensures c.args.opts.now c.requires.colours c.args.modules.now (g.S.Store.told c.args.store.now) (g.I.Source.rest c.args.input.now) (g.O.Sink.taken c.args.out.now)
    c.in-Err.unbuilt.fault c.answer_of.result c.answer_of.ensures c.in-Err.ensures.fault

pub returns-clause-line : goal.returns-clause-line
returns-clause-line g c = line_of_fault (map source c.args.modules.now) c.in-Err.unbuilt.fault c.answer_of.result c.in-Err.unbuilt.line c.answer_of.ensures c.in-Err.ensures.line

pub returns-clause-answer : goal.returns-clause-answer
returns-clause-answer g c = fault_proper c.in-Err.unbuilt.fault c.answer_of.result c.answer_of.ensures c.in-Err.ensures.proper

pub returns-clause-store : goal.returns-clause-store
returns-clause-store g c = rw c.answer_of.ensures c.in-Err.ensures.count

pub returns-clause-read : goal.returns-clause-read
returns-clause-read g c = fault_reads _ c.in-Err.unbuilt.fault c.answer_of.result c.answer_of.ensures

pub returns-clause-write : goal.returns-clause-write
returns-clause-write g c = fault_writes _ c.in-Err.unbuilt.fault c.answer_of.result c.answer_of.ensures

pub returns-clause-streams : goal.returns-clause-streams
returns-clause-streams g c = fault_streams c.in-Err.unbuilt.fault c.answer_of.result (g.I.Source.rest c.args.input.now) (g.O.Sink.taken c.args.out.now) c.answer_of.ensures
