use Rattle.std.proofs.lemmas.Result.{err_from_is_err_and}
use Rattle.pw_fields.proofs.FieldLoops.{goes_on, ends, is_done}
use Rattle.pw_flowfile.specs.Reading.{slot_at, next_room}
use Rattle.pw_flowfile.proofs.graphs.read_slots.Goals as goal

pub returns-in_err-slot : goal.returns-in_err-slot
returns-in_err-slot c =
    let p = err_from_is_err_and c.from_residual.result c.from_residual.ensures.1 in
    rw (p.1, p.2) (ends slot_at next_room c.in_err-slot.field-0.0 c.loop.slots c.args.count c.loop.counter c.loop.used c.loop.rest.now _ c.loop-test.true c.in_err-slot.ensures.found c.loop.invariant)

pub loop-preserved : goal.loop-preserved
loop-preserved c =
    rw (c.in_ok-push.ensures, c.slot_room-used.ensures.value) (goes_on slot_at next_room c.loop.slots c.args.count c.loop.counter c.loop.used c.loop.rest.now c.in_ok-slot.slot c.in_ok-slot.after.now _ c.loop-test.true c.in_ok-slot.ensures.found c.loop.invariant)

pub returns : goal.returns
returns c = is_done slot_at next_room c.loop.slots c.args.count c.loop.counter c.loop.used c.loop.rest.now _ c.loop-test.false c.loop.invariant
