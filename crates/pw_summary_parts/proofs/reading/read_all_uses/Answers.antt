use Rattle.std.proofs.lemmas.Result.{err_from_is_err_and}
use Rattle.pw_fields.proofs.FieldLoops.{repeat_goes_on, repeat_ends, repeat_is_done}
use Rattle.pw_summary_parts.specs.Reading.{uses_at}
use Rattle.pw_summary_parts.proofs.reading.read_all_uses.Goals as goal

pub returns-in_err-uses : goal.returns-in_err-uses
returns-in_err-uses c =
    let p = err_from_is_err_and c.from_residual.result c.from_residual.ensures.1 in
    rw (p.1, p.2) (repeat_ends (uses_at c.args.version c.args.names.now) c.in_err-uses.field-0.0 c.loop.all c.args.count c.loop.counter c.loop.rest.now _ c.loop-test.true c.in_err-uses.ensures c.loop.invariant)

pub loop-preserved : goal.loop-preserved
loop-preserved c =
    rw c.in_ok-push.ensures (repeat_goes_on (uses_at c.args.version c.args.names.now) c.loop.all c.args.count c.loop.counter c.loop.rest.now c.in_ok-uses.uses c.in_ok-uses.after.now _ c.loop-test.true c.in_ok-uses.ensures c.loop.invariant)

pub returns : goal.returns
returns c = repeat_is_done (uses_at c.args.version c.args.names.now) c.loop.all c.args.count c.loop.counter c.loop.rest.now _ c.loop-test.false c.loop.invariant
