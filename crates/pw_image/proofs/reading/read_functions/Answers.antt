use Rattle.std.proofs.lemmas.Result.{err_from_is_err_and}
use Rattle.pw_fields.proofs.FieldLoops.{repeat_goes_on, repeat_ends, repeat_is_done}
use Rattle.pw_image.specs.Reading.{function_at}
use Rattle.pw_image.proofs.reading.read_functions.Goals as goal

pub returns-in_err-function : goal.returns-in_err-function
returns-in_err-function c =
    let p = err_from_is_err_and c.from_residual.result c.from_residual.ensures.1 in
    rw (p.1, p.2) (repeat_ends (function_at c.args.names.now c.args.words) c.in_err-function.field-0.0 c.loop.functions c.args.count c.loop.counter c.loop.rest.now _ c.loop-test.true c.in_err-function.ensures c.loop.invariant)

pub loop-preserved : goal.loop-preserved
loop-preserved c =
    rw c.in_ok-push.ensures (repeat_goes_on (function_at c.args.names.now c.args.words) c.loop.functions c.args.count c.loop.counter c.loop.rest.now c.in_ok-function.function c.in_ok-function.after.now _ c.loop-test.true c.in_ok-function.ensures c.loop.invariant)

pub returns : goal.returns
returns c = repeat_is_done (function_at c.args.names.now c.args.words) c.loop.functions c.args.count c.loop.counter c.loop.rest.now _ c.loop-test.false c.loop.invariant
