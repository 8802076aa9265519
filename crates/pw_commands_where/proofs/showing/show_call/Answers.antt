use Rattle.std.proofs.Common.{refl}
use Rattle.pw_build_files.proofs.DrivingLemmas.{fault_line, fault_streams, fault_writes}
use Rattle.pw_build_files.proofs.OthersLemmas.{built_unput, unbuilt_unput}
use Rattle.pw_commands_where.proofs.WhereLemmas.{fault_built, fault_is, fault_obeys, fault_output, fault_reads, fault_rest, look_built_so, look_is_where, look_line, look_obeys, look_output_is, look_rest_is, look_stores, look_streams}
use Rattle.pw_commands_where.proofs.showing.show_call.Goals as goal

pub show_built-requires-clause-image : goal.show_built-requires-clause-image
show_built-requires-clause-image g c = rw c.deref.ensures.value c.in-Ok.ensures.image

pub show_built-requires-clause-objects : goal.show_built-requires-clause-objects
show_built-requires-clause-objects g c = rw c.deref-in-Ok.ensures.value c.in-Ok.ensures.were_made

pub returns-in-Ok-clause-obeys : goal.returns-in-Ok-clause-obeys
returns-in-Ok-clause-obeys g c =
    look_obeys (g.S.Store.told c.args.store.now) _ (g.I.Source.rest c.args.input.now) _ _ _ c.args.opts.now c.args.call c.in-Ok.report c.show_built.result c.show_built.ensures.answer c.in-Ok.ensures.obeys
    (rw (c.deref.ensures.value, c.deref-in-Ok.ensures.value) at c.show_built.ensures.looks)

pub returns-in-Ok-clause-output : goal.returns-in-Ok-clause-output
returns-in-Ok-clause-output g c =
    look_output_is (g.S.Store.told c.args.store.now) _ (g.I.Source.rest c.args.input.now) _ _ _ c.args.opts.now c.args.call c.in-Ok.report c.show_built.result c.in-Ok.ensures.obeys
    (rw (c.deref.ensures.value, c.deref-in-Ok.ensures.value) at c.show_built.ensures.looks)

pub returns-in-Ok-clause-rest : goal.returns-in-Ok-clause-rest
returns-in-Ok-clause-rest g c =
    look_rest_is (g.S.Store.told c.args.store.now) _ (g.I.Source.rest c.args.input.now) _ _ _ c.args.opts.now c.args.call c.in-Ok.report c.show_built.result c.in-Ok.ensures.obeys
    (rw (c.deref.ensures.value, c.deref-in-Ok.ensures.value) at c.show_built.ensures.looks)

pub returns-in-Ok-clause-built : goal.returns-in-Ok-clause-built
returns-in-Ok-clause-built g c = look_built_so (g.S.Store.told c.args.store.now) _ c.args.opts.now.build c.in-Ok.report c.show_built.result c.show_built.ensures.answer c.in-Ok.ensures.obeys

pub returns-in-Ok-clause-others : goal.returns-in-Ok-clause-others
returns-in-Ok-clause-others g c = built_unput c.other_files.ensures.insertion c.show_built.result (g.S.Store.told c.args.store.now) _ c.in-Ok.ensures.others

pub returns-in-Ok-clause-line : goal.returns-in-Ok-clause-line
returns-in-Ok-clause-line g c = look_line (g.S.Store.told c.args.store.now) c.show_built.result c.show_built.ensures.answer

pub returns-in-Ok-clause-answer : goal.returns-in-Ok-clause-answer
returns-in-Ok-clause-answer g c = look_is_where c.show_built.result c.show_built.ensures.answer

pub returns-in-Ok-clause-store : goal.returns-in-Ok-clause-store
returns-in-Ok-clause-store g c = look_stores _ _ c.show_built.result c.show_built.ensures.answer c.in-Ok.ensures.count

pub returns-in-Ok-clause-streams : goal.returns-in-Ok-clause-streams
returns-in-Ok-clause-streams g c = look_streams c.show_built.result _ _ _ _ c.show_built.ensures.answer

pub returns-in-Err-clause-obeys : goal.returns-in-Err-clause-obeys
returns-in-Err-clause-obeys g c = fault_obeys (g.S.Store.told c.args.store.now) _ (g.I.Source.rest c.args.input.now) c.args.opts.now c.args.call c.in-Err.unbuilt c.answer_of.result c.answer_of.ensures c.in-Err.ensures.obeys

pub returns-in-Err-clause-output : goal.returns-in-Err-clause-output
returns-in-Err-clause-output g c =
    fault_output (g.S.Store.told c.args.store.now) _ (g.I.Source.rest c.args.input.now) (g.O.Sink.taken c.args.out.now) c.args.opts.now c.args.call c.in-Err.unbuilt c.answer_of.result c.answer_of.ensures c.in-Err.ensures.obeys

pub returns-in-Err-clause-rest : goal.returns-in-Err-clause-rest
returns-in-Err-clause-rest g c = fault_rest (g.S.Store.told c.args.store.now) _ (g.I.Source.rest c.args.input.now) c.args.opts.now c.args.call c.in-Err.unbuilt c.answer_of.result c.answer_of.ensures c.in-Err.ensures.obeys

pub returns-in-Err-clause-built : goal.returns-in-Err-clause-built
returns-in-Err-clause-built g c = fault_built (g.S.Store.told c.args.store.now) _ c.args.opts.now.build c.in-Err.unbuilt c.answer_of.result c.answer_of.ensures c.in-Err.ensures.obeys

pub returns-in-Err-clause-others : goal.returns-in-Err-clause-others
returns-in-Err-clause-others g c =
    unbuilt_unput c.other_files.ensures.insertion c.other_files.ensures.failure c.in-Err.unbuilt.fault c.answer_of.result (g.S.Store.told c.args.store.now) _ c.answer_of.ensures c.in-Err.ensures.others

pub returns-in-Err-clause-line : goal.returns-in-Err-clause-line
returns-in-Err-clause-line g c = fault_line (g.S.Store.told c.args.store.now) c.in-Err.unbuilt c.answer_of.result _ c.answer_of.ensures refl c.in-Err.ensures.line

pub returns-in-Err-clause-answer : goal.returns-in-Err-clause-answer
returns-in-Err-clause-answer g c = fault_is c.in-Err.unbuilt.fault c.answer_of.result c.answer_of.ensures c.in-Err.ensures.proper

pub returns-in-Err-clause-store : goal.returns-in-Err-clause-store
returns-in-Err-clause-store g c = rw c.answer_of.ensures c.in-Err.ensures.count

pub returns-in-Err-clause-read : goal.returns-in-Err-clause-read
returns-in-Err-clause-read g c = fault_reads _ c.in-Err.unbuilt.fault c.answer_of.result c.answer_of.ensures

pub returns-in-Err-clause-write : goal.returns-in-Err-clause-write
returns-in-Err-clause-write g c = fault_writes _ c.in-Err.unbuilt.fault c.answer_of.result c.answer_of.ensures

pub returns-in-Err-clause-streams : goal.returns-in-Err-clause-streams
returns-in-Err-clause-streams g c = fault_streams c.in-Err.unbuilt.fault c.answer_of.result (g.I.Source.rest c.args.input.now) (g.O.Sink.taken c.args.out.now) c.answer_of.ensures
