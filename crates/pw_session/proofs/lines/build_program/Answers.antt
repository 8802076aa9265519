use Rattle.std.proofs.Common.{refl}
use Rattle.pw_session_script.specs.Script.{BuildProgram}
use Rattle.pw_session.specs.Outcomes.{image_view}
use Rattle.pw_session.specs.Removals.{IsRemovedBy}
use Rattle.pw_session.proofs.LineLemmas.{genuine_refused, line_built, line_refused, made_built, made_refused}
use Rattle.pw_session.proofs.TurnLemmas.{say_is_line, say_store}
use Rattle.pw_session.proofs.lines.build_program.Goals as goal

pub returns-in-Ok-clause-does : goal.returns-in-Ok-clause-does
returns-in-Ok-clause-does g c =
    line_built c.args.opts.now (image_view c.args.image.now) c.in-Ok.report (g.S.Store.told c.args.store.now) (g.S.Store.told c.build_uncounted.new.store) c.put_report-answer.result (g.O.Sink.taken c.args.out.now) (g.O.Sink.taken c.put_report-answer.new.out) _ c.in-Ok.ensures.obeys
    c.put_report-answer.ensures.output refl

pub returns-in-Ok-clause-some : goal.returns-in-Ok-clause-some
returns-in-Ok-clause-some g c = made_built (IsRemovedBy BuildProgram) (g.S.Store.told c.args.store.now) (g.S.Store.told c.build_uncounted.new.store) c.put_report-answer.result c.in-Ok.ensures.others

pub returns-in-Ok-clause-store : goal.returns-in-Ok-clause-store
returns-in-Ok-clause-store g c = say_store c.put_report-answer.result (g.S.Store.faults c.args.store.now) (g.S.Store.faults c.build_uncounted.new.store) c.put_report-answer.ensures.answer c.in-Ok.ensures.count

pub returns-in-Ok-clause-answer : goal.returns-in-Ok-clause-answer
returns-in-Ok-clause-answer g c = say_is_line c.put_report-answer.result c.put_report-answer.ensures.answer

pub returns-in-Err-clause-does : goal.returns-in-Err-clause-does
returns-in-Err-clause-does g c =
    line_refused (record { told = c.answers_are_told_in_one_way.ensures; shown = c.files_are_seen_in_one_way.ensures }) c.args.opts.now (image_view c.args.image.now) c.in-Err.unbuilt (g.S.Store.told c.args.store.now) (g.S.Store.told c.build_uncounted.new.store)
    (g.S.Store.told c.say_fault.new.store) c.say_fault.result (g.O.Sink.taken c.args.out.now) (g.O.Sink.taken c.say_fault.new.out) (image_view c.args.image.now) c.in-Err.ensures.obeys c.in-Err.ensures.line c.in-Err.ensures.others c.say_fault.ensures.said c.say_fault.ensures.same refl

pub returns-in-Err-clause-some : goal.returns-in-Err-clause-some
returns-in-Err-clause-some g c =
    made_refused (IsRemovedBy BuildProgram) c.in-Err.unbuilt (g.S.Store.told c.args.store.now) (g.S.Store.told c.build_uncounted.new.store) (g.S.Store.told c.say_fault.new.store) c.say_fault.result (g.O.Sink.taken c.args.out.now) (g.O.Sink.taken c.say_fault.new.out)
    c.in-Err.ensures.others c.say_fault.ensures.said c.say_fault.ensures.same

pub returns-in-Err-clause-genuine : goal.returns-in-Err-clause-genuine
returns-in-Err-clause-genuine g c =
    genuine_refused c.in-Err.unbuilt (g.S.Store.told c.args.store.now) (g.S.Store.told c.build_uncounted.new.store) (g.S.Store.told c.say_fault.new.store) c.in-Err.ensures.others c.in-Err.ensures.genuine c.say_fault.ensures.same

pub returns-in-Err-clause-store : goal.returns-in-Err-clause-store
returns-in-Err-clause-store g c = c.say_fault.ensures.store (g.S.Store.faults c.args.store.now) c.in-Err.ensures.count
