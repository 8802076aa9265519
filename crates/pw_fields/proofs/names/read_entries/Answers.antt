use Rattle.std.proofs.lemmas.Result.{err_from_is_err_and}
use Rattle.pw_fields.specs.FieldNames.{entry_at, next_entry}
use Rattle.pw_fields.proofs.FieldLoops.{goes_on, ends, is_done}
use Rattle.pw_fields.proofs.names.read_entries.Goals as goal

pub returns-in_err-text : goal.returns-in_err-text
returns-in_err-text c =
    let p = err_from_is_err_and c.from_residual.result c.from_residual.ensures.1 in
    rw (p.1, p.2) (ends entry_at next_entry c.in_err-text.field-0.0 c.loop.names.items c.args.count c.loop.counter c.loop.before.now c.loop.rest.now _ c.loop-test.true c.in_err-text.ensures.read c.loop.invariant)

pub loop-preserved : goal.loop-preserved
loop-preserved c =
    rw (c.in_ok-push.ensures.items, c.in_ok-within.ensures) (goes_on entry_at next_entry c.loop.names.items c.args.count c.loop.counter c.loop.before.now c.loop.rest.now c.in_ok-text.text.now c.in_ok-text.after.now _ c.loop-test.true c.in_ok-text.ensures.read c.loop.invariant)

pub returns : goal.returns
returns c = is_done entry_at next_entry c.loop.names.items c.args.count c.loop.counter c.loop.before.now c.loop.rest.now _ c.loop-test.false c.loop.invariant
