use Rattle.std.proofs.Common.{refl}
use Rattle.pw_build_files.proofs.DrivingLemmas.{fault_line, fault_streams, fault_writes}
use Rattle.pw_build_files.proofs.OthersLemmas.{built_unput, unbuilt_unput}
use Rattle.pw_go.proofs.GoLemmas.{fault_built, fault_is, fault_obeys, fault_output, fault_reads, fault_rest, run_built_so, run_is, run_line, run_obeys, run_output_is, run_rest_is, run_stores, run_streams}
use Rattle.pw_go.proofs.going.go.Goals as goal

pub returns-in-Ok-clause-obeys : goal.returns-in-Ok-clause-obeys
returns-in-Ok-clause-obeys g c =
    run_obeys (g.S.Store.told c.args.store.now) _ (g.I.Source.rest c.args.input.now) _ _ _ c.args.opts.now c.in-Ok.report c.run_built.result c.run_built.ensures.answer c.in-Ok.ensures.image c.in-Ok.ensures.obeys
    (rw c.deref.ensures.value at c.run_built.ensures.run)

pub returns-in-Ok-clause-output : goal.returns-in-Ok-clause-output
returns-in-Ok-clause-output g c =
    run_output_is (g.S.Store.told c.args.store.now) _ (g.I.Source.rest c.args.input.now) _ _ _ c.args.opts.now c.in-Ok.report c.run_built.result c.in-Ok.ensures.obeys (rw c.deref.ensures.value at c.run_built.ensures.run)

pub returns-in-Ok-clause-rest : goal.returns-in-Ok-clause-rest
returns-in-Ok-clause-rest g c =
    run_rest_is (g.S.Store.told c.args.store.now) _ (g.I.Source.rest c.args.input.now) _ _ _ c.args.opts.now c.in-Ok.report c.run_built.result c.in-Ok.ensures.obeys (rw c.deref.ensures.value at c.run_built.ensures.run)

pub returns-in-Ok-clause-built : goal.returns-in-Ok-clause-built
returns-in-Ok-clause-built g c = run_built_so (g.S.Store.told c.args.store.now) _ c.args.opts.now.build c.in-Ok.report c.run_built.result c.run_built.ensures.answer c.in-Ok.ensures.obeys

pub returns-in-Ok-clause-others : goal.returns-in-Ok-clause-others
returns-in-Ok-clause-others g c = built_unput c.other_files.ensures.insertion c.run_built.result (g.S.Store.told c.args.store.now) _ c.in-Ok.ensures.others

pub returns-in-Ok-clause-line : goal.returns-in-Ok-clause-line
returns-in-Ok-clause-line g c = run_line (g.S.Store.told c.args.store.now) c.run_built.result c.run_built.ensures.answer

pub returns-in-Ok-clause-answer : goal.returns-in-Ok-clause-answer
returns-in-Ok-clause-answer g c = run_is c.run_built.result c.run_built.ensures.answer

pub returns-in-Ok-clause-store : goal.returns-in-Ok-clause-store
returns-in-Ok-clause-store g c = run_stores _ _ c.run_built.result c.run_built.ensures.answer c.in-Ok.ensures.count

pub returns-in-Ok-clause-streams : goal.returns-in-Ok-clause-streams
returns-in-Ok-clause-streams g c = run_streams c.run_built.result _ _ _ _ c.run_built.ensures.answer

pub returns-in-Err-clause-obeys : goal.returns-in-Err-clause-obeys
returns-in-Err-clause-obeys g c = fault_obeys (g.S.Store.told c.args.store.now) _ (g.I.Source.rest c.args.input.now) c.args.opts.now c.in-Err.unbuilt c.answer_of.result c.answer_of.ensures c.in-Err.ensures.obeys

pub returns-in-Err-clause-output : goal.returns-in-Err-clause-output
returns-in-Err-clause-output g c =
    fault_output (g.S.Store.told c.args.store.now) _ (g.I.Source.rest c.args.input.now) (g.O.Sink.taken c.args.out.now) c.args.opts.now c.in-Err.unbuilt c.answer_of.result c.answer_of.ensures c.in-Err.ensures.obeys

pub returns-in-Err-clause-rest : goal.returns-in-Err-clause-rest
returns-in-Err-clause-rest g c = fault_rest (g.S.Store.told c.args.store.now) _ (g.I.Source.rest c.args.input.now) c.args.opts.now c.in-Err.unbuilt c.answer_of.result c.answer_of.ensures c.in-Err.ensures.obeys

pub returns-in-Err-clause-built : goal.returns-in-Err-clause-built
returns-in-Err-clause-built g c = fault_built (g.S.Store.told c.args.store.now) _ c.args.opts.now.build c.in-Err.unbuilt c.answer_of.result c.answer_of.ensures c.in-Err.ensures.obeys

pub returns-in-Err-clause-others : goal.returns-in-Err-clause-others
returns-in-Err-clause-others g c =
    unbuilt_unput c.other_files.ensures.insertion c.other_files.ensures.failure c.in-Err.unbuilt.fault c.answer_of.result (g.S.Store.told c.args.store.now) _ c.answer_of.ensures c.in-Err.ensures.others

pub returns-in-Err-clause-line : goal.returns-in-Err-clause-line
returns-in-Err-clause-line g c = fault_line (g.S.Store.told c.args.store.now) c.in-Err.unbuilt c.answer_of.result _ c.answer_of.ensures refl c.in-Err.ensures.line

pub returns-in-Err-clause-answer : goal.returns-in-Err-clause-answer
returns-in-Err-clause-answer g c = fault_is c.in-Err.unbuilt.fault c.answer_of.result c.answer_of.ensures c.in-Err.ensures.proper

pub returns-in-Err-clause-store : goal.returns-in-Err-clause-store
returns-in-Err-clause-store g c = rw c.answer_of.ensures c.in-Err.ensures.count

pub returns-in-Err-clause-read : goal.returns-in-Err-clause-read
returns-in-Err-clause-read g c = fault_reads _ c.in-Err.unbuilt.fault c.answer_of.result c.answer_of.ensures

pub returns-in-Err-clause-write : goal.returns-in-Err-clause-write
returns-in-Err-clause-write g c = fault_writes _ c.in-Err.unbuilt.fault c.answer_of.result c.answer_of.ensures

pub returns-in-Err-clause-streams : goal.returns-in-Err-clause-streams
returns-in-Err-clause-streams g c = fault_streams c.in-Err.unbuilt.fault c.answer_of.result (g.I.Source.rest c.args.input.now) (g.O.Sink.taken c.args.out.now) c.answer_of.ensures
