use Rattle.std.proofs.lemmas.Result.{err_from_is_err_and}
use Rattle.pw_fields.proofs.FieldLoops.{repeat_goes_on, repeat_ends, repeat_is_done}
use Rattle.pw_image.specs.Reading.{global_at}
use Rattle.pw_image.proofs.reading.read_globals.Goals as goal

pub returns-in_err-global : goal.returns-in_err-global
returns-in_err-global c =
    let p = err_from_is_err_and c.from_residual.result c.from_residual.ensures.1 in
    rw (p.1, p.2) (repeat_ends (global_at c.args.names.now) c.in_err-global.field-0.0 c.loop.globals c.args.count c.loop.counter c.loop.rest.now _ c.loop-test.true c.in_err-global.ensures c.loop.invariant)

pub loop-preserved : goal.loop-preserved
loop-preserved c =
    rw c.in_ok-push.ensures (repeat_goes_on (global_at c.args.names.now) c.loop.globals c.args.count c.loop.counter c.loop.rest.now c.in_ok-global.global c.in_ok-global.after.now _ c.loop-test.true c.in_ok-global.ensures c.loop.invariant)

pub returns : goal.returns
returns c = repeat_is_done (global_at c.args.names.now) c.loop.globals c.args.count c.loop.counter c.loop.rest.now _ c.loop-test.false c.loop.invariant
