use Rattle.std.proofs.Common.{◌+◌, ◌-◌, ◌∙◌, refl, arith}
use Rattle.pw_top_answer.specs.declared.answer.Answer.TheVariants.{Done}
use Rattle.pw_session.specs.Outcomes.{image_view}
use Rattle.pw_session.specs.Removals.{MayRemove}
use Rattle.pw_session.specs.Session.{lines_limit}
use Rattle.pw_session.proofs.EndLemmas.{ends_begin, ends_further, ends_last, ends_over, some_removed}
use Rattle.pw_session.proofs.LineLemmas.{same_some}
use Rattle.pw_session.proofs.SessionLemmas.{session_begins, session_further, session_last, session_over}
use Rattle.pw_session.proofs.TurnLemmas.{genuine_on, genuine_same, leaves_on, part_on, part_start, read_is, read_on, read_store, read_write, some_on, store_on, write_on}
use Rattle.pw_session.proofs.session.run_session.Goals as goal

pub loop-place-init : goal.loop-place-init
loop-place-init g c = record {
  session = session_begins c.args.opts.now (lines_limit - 0) (g.S.Store.told c.args.store.now) (g.I.Source.rest c.args.input.now) (g.O.Sink.taken c.args.out.now) (omega arith);
  image = tt;
  ends = ends_begin (lines_limit - 0) (g.I.Source.rest c.args.input.now) (omega arith);
  some = same_some (MayRemove (g.I.Source.rest c.args.input.now)) (g.S.Store.told c.args.store.now) Done;
  genuine = genuine_same (g.S.Store.told c.args.store.now);
  part = part_start (g.I.Source.rest c.args.input.now);
  store = refl;
  read = refl;
  write = refl;
  small = omega arith;
}

pub loop-place-preserved : goal.loop-place-preserved
loop-place-preserved g c = record {
  session = session_further c.args.opts.now (lines_limit - c.loop-place._place) (lines_limit - (c.loop-place._place + 1)) c.loop-place.offset c.in-Obeyed.size (g.S.Store.told c.args.store.now) (g.S.Store.told c.loop-place.store) (g.S.Store.told c.take_turn.new.store)
      (g.I.Source.rest c.args.input.now) (g.I.Source.rest c.loop-place.input) (g.I.Source.rest c.take_turn.new.input) (g.O.Sink.taken c.args.out.now) (g.O.Sink.taken c.loop-place.out) (g.O.Sink.taken c.take_turn.new.out) (image_view c.loop-place.image) (image_view c.take_turn.new.image)
      (omega arith) c.loop-place.invariant.session c.in-Obeyed.ensures.turn;
  image = c.take_turn.ensures.image;
  ends = ends_further (lines_limit - c.loop-place._place) (lines_limit - (c.loop-place._place + 1)) c.loop-place.offset c.in-Obeyed.size (g.I.Source.rest c.args.input.now) (g.I.Source.rest c.loop-place.input) (g.I.Source.rest c.take_turn.new.input)
      (omega arith) c.loop-place.invariant.ends c.in-Obeyed.ensures.ends;
  some = some_on (MayRemove (g.I.Source.rest c.args.input.now)) Done (g.S.Store.told c.args.store.now) (g.S.Store.told c.loop-place.store) (g.S.Store.told c.take_turn.new.store) c.loop-place.invariant.some
      (some_removed (lines_limit - c.loop-place._place) (lines_limit - (c.loop-place._place + 1)) c.loop-place.offset Done (g.I.Source.rest c.args.input.now) (g.I.Source.rest c.loop-place.input) (g.S.Store.told c.loop-place.store) (g.S.Store.told c.take_turn.new.store)
      (omega arith) c.loop-place.invariant.ends c.in-Obeyed.ensures.some);
  genuine = genuine_on (MayRemove (g.I.Source.rest c.args.input.now)) (g.S.Store.told c.args.store.now) (g.S.Store.told c.loop-place.store) (g.S.Store.told c.take_turn.new.store) c.loop-place.invariant.some c.loop-place.invariant.genuine c.take_turn.ensures.genuine;
  part = part_on (g.I.Source.rest c.args.input.now) (g.I.Source.rest c.loop-place.input) (g.I.Source.rest c.take_turn.new.input) c.loop-place.invariant.part c.take_turn.ensures.part;
  store = c.in-Obeyed.ensures.store ∙ c.loop-place.invariant.store;
  read = c.in-Obeyed.ensures.read ∙ c.loop-place.invariant.read;
  write = c.in-Obeyed.ensures.write ∙ c.loop-place.invariant.write;
  small = omega (arith, c.in-Obeyed.ensures.kind, c.loop-place.invariant.small);
}

pub returns-in-Over-clause-obeys : goal.returns-in-Over-clause-obeys
returns-in-Over-clause-obeys g c =
    session_over c.args.opts.now (lines_limit - c.loop-place._place) (lines_limit - (c.loop-place._place + 1)) c.loop-place.offset c.in-Over.answer (g.S.Store.told c.args.store.now) (g.S.Store.told c.loop-place.store) (g.S.Store.told c.take_turn.new.store)
    (g.I.Source.rest c.args.input.now) (g.I.Source.rest c.loop-place.input) (g.I.Source.rest c.take_turn.new.input) (g.O.Sink.taken c.args.out.now) (g.O.Sink.taken c.loop-place.out) (g.O.Sink.taken c.take_turn.new.out) (image_view c.loop-place.image) (image_view c.take_turn.new.image)
    (omega arith) c.loop-place.invariant.session c.in-Over.ensures.turn

pub returns-in-Over-clause-ends : goal.returns-in-Over-clause-ends
returns-in-Over-clause-ends g c =
    ends_over (lines_limit - c.loop-place._place) (lines_limit - (c.loop-place._place + 1)) c.loop-place.offset c.in-Over.answer (g.I.Source.rest c.args.input.now) (g.I.Source.rest c.loop-place.input) (g.I.Source.rest c.take_turn.new.input)
    (omega arith) c.loop-place.invariant.ends c.in-Over.ensures.ends

pub returns-in-Over-clause-some : goal.returns-in-Over-clause-some
returns-in-Over-clause-some g c =
    some_on (MayRemove (g.I.Source.rest c.args.input.now)) c.in-Over.answer (g.S.Store.told c.args.store.now) (g.S.Store.told c.loop-place.store) (g.S.Store.told c.take_turn.new.store) c.loop-place.invariant.some
    (some_removed (lines_limit - c.loop-place._place) (lines_limit - (c.loop-place._place + 1)) c.loop-place.offset c.in-Over.answer (g.I.Source.rest c.args.input.now) (g.I.Source.rest c.loop-place.input) (g.S.Store.told c.loop-place.store) (g.S.Store.told c.take_turn.new.store)
    (omega arith) c.loop-place.invariant.ends c.in-Over.ensures.some)

pub returns-in-Over-clause-genuine : goal.returns-in-Over-clause-genuine
returns-in-Over-clause-genuine g c =
    genuine_on (MayRemove (g.I.Source.rest c.args.input.now)) (g.S.Store.told c.args.store.now) (g.S.Store.told c.loop-place.store) (g.S.Store.told c.take_turn.new.store) c.loop-place.invariant.some c.loop-place.invariant.genuine c.take_turn.ensures.genuine

pub returns-in-Over-clause-rest : goal.returns-in-Over-clause-rest
returns-in-Over-clause-rest g c = leaves_on c.in-Over.answer (g.I.Source.rest c.args.input.now) (g.I.Source.rest c.loop-place.input) (g.I.Source.rest c.take_turn.new.input) c.loop-place.invariant.part c.in-Over.ensures.whole

pub returns-in-Over-clause-store : goal.returns-in-Over-clause-store
returns-in-Over-clause-store g c = store_on c.in-Over.answer (g.S.Store.faults c.args.store.now) (g.S.Store.faults c.loop-place.store) (g.S.Store.faults c.take_turn.new.store) c.loop-place.invariant.store c.in-Over.ensures.store

pub returns-in-Over-clause-read : goal.returns-in-Over-clause-read
returns-in-Over-clause-read g c = read_on c.in-Over.answer (g.I.Source.faults c.args.input.now) (g.I.Source.faults c.loop-place.input) (g.I.Source.faults c.take_turn.new.input) c.loop-place.invariant.read c.in-Over.ensures.read

pub returns-in-Over-clause-write : goal.returns-in-Over-clause-write
returns-in-Over-clause-write g c = write_on c.in-Over.answer (g.O.Sink.faults c.args.out.now) (g.O.Sink.faults c.loop-place.out) (g.O.Sink.faults c.take_turn.new.out) c.loop-place.invariant.write c.in-Over.ensures.write

pub returns-in-Over-clause-answer : goal.returns-in-Over-clause-answer
returns-in-Over-clause-answer g c = c.in-Over.ensures.kind

pub returns-clause-obeys : goal.returns-clause-obeys
returns-clause-obeys g c =
    session_last c.args.opts.now (lines_limit - c.loop-place._place) c.loop-place.offset c.last_turn.result (g.S.Store.told c.args.store.now) (g.S.Store.told c.loop-place.store) (g.I.Source.rest c.args.input.now) (g.I.Source.rest c.loop-place.input) (g.O.Sink.taken c.args.out.now)
    (g.O.Sink.taken c.loop-place.out) (image_view c.loop-place.image) (omega arith) c.loop-place.invariant.session c.last_turn.ensures.last

pub returns-clause-ends : goal.returns-clause-ends
returns-clause-ends g c =
    ends_last (lines_limit - c.loop-place._place) c.loop-place.offset c.last_turn.result (g.I.Source.rest c.args.input.now) (g.I.Source.rest c.loop-place.input) (omega arith) c.loop-place.invariant.ends c.last_turn.ensures.last

pub returns-clause-some : goal.returns-clause-some
returns-clause-some g c = some_on (MayRemove (g.I.Source.rest c.args.input.now)) c.last_turn.result (g.S.Store.told c.args.store.now) (g.S.Store.told c.loop-place.store) (g.S.Store.told c.loop-place.store) c.loop-place.invariant.some (same_some (MayRemove (g.I.Source.rest c.args.input.now)) (g.S.Store.told c.loop-place.store) c.last_turn.result)

pub returns-clause-rest : goal.returns-clause-rest
returns-clause-rest g c = leaves_on c.last_turn.result (g.I.Source.rest c.args.input.now) (g.I.Source.rest c.loop-place.input) (g.I.Source.rest c.last_turn.new.input) c.loop-place.invariant.part c.last_turn.ensures.whole

pub returns-clause-store : goal.returns-clause-store
returns-clause-store g c = read_store c.last_turn.result (g.S.Store.faults c.args.store.now) (g.S.Store.faults c.loop-place.store) c.last_turn.ensures.kind c.loop-place.invariant.store

pub returns-clause-read : goal.returns-clause-read
returns-clause-read g c = read_on c.last_turn.result (g.I.Source.faults c.args.input.now) (g.I.Source.faults c.loop-place.input) (g.I.Source.faults c.last_turn.new.input) c.loop-place.invariant.read c.last_turn.ensures.read

pub returns-clause-write : goal.returns-clause-write
returns-clause-write g c = read_write c.last_turn.result (g.O.Sink.faults c.args.out.now) (g.O.Sink.faults c.loop-place.out) c.last_turn.ensures.kind c.loop-place.invariant.write

pub returns-clause-answer : goal.returns-clause-answer
returns-clause-answer g c = read_is c.last_turn.result c.last_turn.ensures.kind
