use Rattle.std.proofs.Common.{None, refl}
use Rattle.pw_build_files.proofs.DrivingLemmas.{fault_is_answer, fault_line, fault_obeys, fault_output, fault_refusal, fault_streams, fault_writes, report_answer, report_count, report_line, report_obeys, report_output, report_refusal, report_streams}
use Rattle.pw_build_files.proofs.OthersLemmas.{built_unput, unbuilt_unput}
use Rattle.pw_build_files.proofs.driving.build_modules.Goals as goal

pub returns-in-Ok-clause-obeys : goal.returns-in-Ok-clause-obeys
returns-in-Ok-clause-obeys g c = report_obeys (g.S.Store.told c.args.store.now) _ c.args.opts.now c.in-Ok.report _ c.put_report.ensures.answer c.in-Ok.ensures.obeys

pub returns-in-Ok-clause-output : goal.returns-in-Ok-clause-output
returns-in-Ok-clause-output g c =
    report_output (g.S.Store.told c.args.store.now) _ c.args.opts.now c.in-Ok.report _ (g.O.Sink.taken c.args.out.now) _ c.in-Ok.ensures.obeys c.put_report.ensures.output

pub returns-in-Ok-clause-refusal : goal.returns-in-Ok-clause-refusal
returns-in-Ok-clause-refusal g c = report_refusal (g.S.Store.told c.args.store.now) _ c.args.opts.now c.in-Ok.report _ c.put_report.ensures.answer c.in-Ok.ensures.obeys

pub returns-in-Ok-clause-others : goal.returns-in-Ok-clause-others
returns-in-Ok-clause-others g c = built_unput c.other_files.ensures.insertion _ (g.S.Store.told c.args.store.now) _ c.in-Ok.ensures.others

pub returns-in-Ok-clause-line : goal.returns-in-Ok-clause-line
returns-in-Ok-clause-line g c = report_line (g.S.Store.told c.args.store.now) _ None c.put_report.ensures.answer

pub returns-in-Ok-clause-answer : goal.returns-in-Ok-clause-answer
returns-in-Ok-clause-answer g c = report_answer _ c.put_report.ensures.answer

pub returns-in-Ok-clause-store : goal.returns-in-Ok-clause-store
returns-in-Ok-clause-store g c = report_count _ _ _ c.put_report.ensures.answer c.in-Ok.ensures.count

pub returns-in-Ok-clause-streams : goal.returns-in-Ok-clause-streams
returns-in-Ok-clause-streams g c = λ input. report_streams _ input input _ _ c.put_report.ensures.answer

pub returns-in-Err-clause-obeys : goal.returns-in-Err-clause-obeys
returns-in-Err-clause-obeys g c = fault_obeys (g.S.Store.told c.args.store.now) _ c.args.opts.now c.in-Err.unbuilt _ c.answer_of.ensures c.in-Err.ensures.obeys

pub returns-in-Err-clause-output : goal.returns-in-Err-clause-output
returns-in-Err-clause-output g c = fault_output (g.S.Store.told c.args.store.now) _ c.args.opts.now c.in-Err.unbuilt _ (g.O.Sink.taken c.args.out.now) c.answer_of.ensures c.in-Err.ensures.obeys

pub returns-in-Err-clause-refusal : goal.returns-in-Err-clause-refusal
returns-in-Err-clause-refusal g c = fault_refusal (g.S.Store.told c.args.store.now) _ c.args.opts.now c.in-Err.unbuilt _ c.answer_of.ensures c.in-Err.ensures.obeys

pub returns-in-Err-clause-others : goal.returns-in-Err-clause-others
returns-in-Err-clause-others g c = unbuilt_unput c.other_files.ensures.insertion c.other_files.ensures.failure c.in-Err.unbuilt.fault _ (g.S.Store.told c.args.store.now) _ c.answer_of.ensures c.in-Err.ensures.others

pub returns-in-Err-clause-line : goal.returns-in-Err-clause-line
returns-in-Err-clause-line g c = fault_line (g.S.Store.told c.args.store.now) c.in-Err.unbuilt _ _ c.answer_of.ensures refl c.in-Err.ensures.line

pub returns-in-Err-clause-answer : goal.returns-in-Err-clause-answer
returns-in-Err-clause-answer g c = fault_is_answer c.in-Err.unbuilt.fault _ c.answer_of.ensures c.in-Err.ensures.proper

pub returns-in-Err-clause-store : goal.returns-in-Err-clause-store
returns-in-Err-clause-store g c = rw c.answer_of.ensures c.in-Err.ensures.count

pub returns-in-Err-clause-write : goal.returns-in-Err-clause-write
returns-in-Err-clause-write g c = fault_writes _ c.in-Err.unbuilt.fault _ c.answer_of.ensures

pub returns-in-Err-clause-streams : goal.returns-in-Err-clause-streams
returns-in-Err-clause-streams g c = λ input. fault_streams c.in-Err.unbuilt.fault _ input (g.O.Sink.taken c.args.out.now) c.answer_of.ensures
