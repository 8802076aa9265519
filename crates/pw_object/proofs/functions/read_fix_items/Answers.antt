use Rattle.std.proofs.lemmas.Result.{err_from_is_err_and}
use Rattle.pw_fields.proofs.FieldLoops.{repeat_goes_on, repeat_ends, repeat_is_done}
use Rattle.pw_object.specs.Reading.{fix_at}
use Rattle.pw_object.proofs.functions.read_fix_items.Goals as goal

pub returns-in_err-fix : goal.returns-in_err-fix
returns-in_err-fix c =
    let p = err_from_is_err_and c.from_residual.result c.from_residual.ensures.1 in
    rw (p.1, p.2) (repeat_ends (fix_at c.args.names.now c.args.words) c.in_err-fix.field-0.0 c.loop.items c.args.count c.loop.counter c.loop.rest.now _ c.loop-test.true c.in_err-fix.ensures c.loop.invariant)

pub loop-preserved : goal.loop-preserved
loop-preserved c =
    rw c.in_ok-push.ensures (repeat_goes_on (fix_at c.args.names.now c.args.words) c.loop.items c.args.count c.loop.counter c.loop.rest.now c.in_ok-fix.fix c.in_ok-fix.after.now _ c.loop-test.true c.in_ok-fix.ensures c.loop.invariant)

pub returns : goal.returns
returns c = repeat_is_done (fix_at c.args.names.now c.args.words) c.loop.items c.args.count c.loop.counter c.loop.rest.now _ c.loop-test.false c.loop.invariant
