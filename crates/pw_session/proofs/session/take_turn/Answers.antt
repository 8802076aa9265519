use Rattle.pw_top_answer.specs.declared.answer.Answer.TheVariants.{Done}
use Rattle.pw_session.specs.Outcomes.{image_view, turn_answer}
use Rattle.pw_session.specs.Removals.{MayRemoveFirst}
use Rattle.pw_session.proofs.SessionLemmas.{turn_ends_so, turn_taken_so, turn_unread_so}
use Rattle.pw_session.proofs.TurnLemmas.{genuine_same, leaves_end_so, leaves_taken, leaves_unread, short_so, taken_is, taken_read, unread_is, unread_read, unread_store, unread_write}
use Rattle.pw_session.proofs.EndLemmas.{over_ends, taken_ends, taken_some, unread_ends}
use Rattle.pw_session.proofs.LineLemmas.{same_some}
use Rattle.pw_session.proofs.session.take_turn.Goals as goal

pub returns-in-Ok-Some-clause-turn : goal.returns-in-Ok-Some-clause-turn
returns-in-Ok-Some-clause-turn g c =
    turn_taken_so c.args.opts.now (image_view c.args.image.now) c.args.offset c.in-Ok-Some.field-0 c.in-Ok-Some.taken c.obey_taken.result (g.S.Store.told c.args.store.now) (g.S.Store.told c.obey_taken.new.store) (g.I.Source.rest c.args.input.now) (g.I.Source.rest c.next_line.new.input)
    (g.O.Sink.taken c.args.out.now) (g.O.Sink.taken c.obey_taken.new.out) (image_view c.obey_taken.new.image) c.in-Ok-Some.field-0-is c.in-Ok-Some.ensures.line c.obey_taken.ensures.turn c.obey_taken.ensures.does

pub returns-in-Ok-Some-clause-ends : goal.returns-in-Ok-Some-clause-ends
returns-in-Ok-Some-clause-ends g c =
    taken_ends c.args.offset c.in-Ok-Some.field-0 c.in-Ok-Some.taken c.obey_taken.result (g.I.Source.rest c.args.input.now) (g.I.Source.rest c.next_line.new.input) c.in-Ok-Some.field-0-is c.obey_taken.ensures.turn c.in-Ok-Some.ensures.line

pub returns-in-Ok-Some-clause-some : goal.returns-in-Ok-Some-clause-some
returns-in-Ok-Some-clause-some g c =
    taken_some c.in-Ok-Some.field-0 c.in-Ok-Some.taken (turn_answer c.obey_taken.result) (g.I.Source.rest c.args.input.now) (g.I.Source.rest c.next_line.new.input) (g.S.Store.told c.args.store.now) (g.S.Store.told c.obey_taken.new.store)
    c.in-Ok-Some.field-0-is c.in-Ok-Some.ensures.line c.obey_taken.ensures.some

pub returns-in-Ok-Some-clause-whole : goal.returns-in-Ok-Some-clause-whole
returns-in-Ok-Some-clause-whole g c = leaves_taken c.in-Ok-Some.taken c.obey_taken.result (g.I.Source.rest c.args.input.now) (g.I.Source.rest c.next_line.new.input) c.obey_taken.ensures.turn c.next_line.ensures.part

pub returns-in-Ok-Some-clause-read : goal.returns-in-Ok-Some-clause-read
returns-in-Ok-Some-clause-read g c = taken_read c.in-Ok-Some.taken c.obey_taken.result (g.I.Source.faults c.args.input.now) (g.I.Source.faults c.next_line.new.input) c.obey_taken.ensures.turn c.in-Ok-Some.ensures.count

pub returns-in-Ok-Some-clause-kind : goal.returns-in-Ok-Some-clause-kind
returns-in-Ok-Some-clause-kind g c = taken_is c.in-Ok-Some.taken c.obey_taken.result c.obey_taken.ensures.turn (short_so c.in-Ok-Some.field-0 c.in-Ok-Some.taken c.in-Ok-Some.field-0-is c.in-Ok-Some.ensures.short)

pub returns-in-Ok-None-clause-turn : goal.returns-in-Ok-None-clause-turn
returns-in-Ok-None-clause-turn g c =
    turn_ends_so c.args.opts.now (image_view c.args.image.now) c.args.offset c.in-Ok-None.field-0 (g.S.Store.told c.args.store.now) (g.I.Source.rest c.args.input.now) (g.I.Source.rest c.next_line.new.input) (g.O.Sink.taken c.args.out.now) (image_view c.args.image.now) c.in-Ok-None.field-0-is
    c.in-Ok-None.ensures.line

pub returns-in-Err-clause-turn : goal.returns-in-Err-clause-turn
returns-in-Err-clause-turn g c =
    turn_unread_so c.args.opts.now (image_view c.args.image.now) c.args.offset c.in-Err.fault c.unread.result (g.S.Store.told c.args.store.now) (g.I.Source.rest c.args.input.now) (g.I.Source.rest c.next_line.new.input) (g.O.Sink.taken c.args.out.now) (image_view c.args.image.now) c.unread.ensures
    c.in-Err.ensures.line

pub returns-in-Ok-None-clause-ends : goal.returns-in-Ok-None-clause-ends
returns-in-Ok-None-clause-ends g c = over_ends c.args.offset c.in-Ok-None.field-0 (g.I.Source.rest c.args.input.now) (g.I.Source.rest c.next_line.new.input) c.in-Ok-None.field-0-is c.in-Ok-None.ensures.line

pub returns-in-Ok-None-clause-some : goal.returns-in-Ok-None-clause-some
returns-in-Ok-None-clause-some g c = same_some (MayRemoveFirst (g.I.Source.rest c.args.input.now)) (g.S.Store.told c.args.store.now) Done

pub returns-in-Ok-None-clause-genuine : goal.returns-in-Ok-None-clause-genuine
returns-in-Ok-None-clause-genuine g c = genuine_same (g.S.Store.told c.args.store.now)

pub returns-in-Ok-None-clause-whole : goal.returns-in-Ok-None-clause-whole
returns-in-Ok-None-clause-whole g c = leaves_end_so c.in-Ok-None.field-0 (g.I.Source.rest c.args.input.now) (g.I.Source.rest c.next_line.new.input) c.in-Ok-None.field-0-is c.in-Ok-None.ensures.line

pub returns-in-Err-clause-ends : goal.returns-in-Err-clause-ends
returns-in-Err-clause-ends g c = unread_ends c.args.offset c.in-Err.fault c.unread.result (g.I.Source.rest c.args.input.now) (g.I.Source.rest c.next_line.new.input) c.unread.ensures c.in-Err.ensures.line

pub returns-in-Err-clause-some : goal.returns-in-Err-clause-some
returns-in-Err-clause-some g c = same_some (MayRemoveFirst (g.I.Source.rest c.args.input.now)) (g.S.Store.told c.args.store.now) c.unread.result

pub returns-in-Err-clause-genuine : goal.returns-in-Err-clause-genuine
returns-in-Err-clause-genuine g c = genuine_same (g.S.Store.told c.args.store.now)

pub returns-in-Err-clause-whole : goal.returns-in-Err-clause-whole
returns-in-Err-clause-whole g c = rw c.unread.ensures (leaves_unread c.in-Err.fault c.args.offset (g.I.Source.rest c.args.input.now) (g.I.Source.rest c.next_line.new.input) c.next_line.ensures.part)

pub returns-in-Err-clause-store : goal.returns-in-Err-clause-store
returns-in-Err-clause-store g c = rw c.unread.ensures (unread_store c.in-Err.fault c.args.offset (g.S.Store.faults c.args.store.now))

pub returns-in-Err-clause-read : goal.returns-in-Err-clause-read
returns-in-Err-clause-read g c = rw c.unread.ensures (unread_read c.in-Err.fault c.args.offset (g.I.Source.faults c.args.input.now) (g.I.Source.faults c.next_line.new.input) c.in-Err.ensures.count)

pub returns-in-Err-clause-write : goal.returns-in-Err-clause-write
returns-in-Err-clause-write g c = rw c.unread.ensures (unread_write c.in-Err.fault c.args.offset (g.O.Sink.faults c.args.out.now))

pub returns-in-Err-clause-kind : goal.returns-in-Err-clause-kind
returns-in-Err-clause-kind g c = rw c.unread.ensures (unread_is c.in-Err.fault c.args.offset)
