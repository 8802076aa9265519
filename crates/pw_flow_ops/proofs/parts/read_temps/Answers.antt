use Rattle.std.proofs.lemmas.Result.{err_from_is_err_and}
use Rattle.pw_fields.proofs.FieldLoops.{repeat_goes_on, repeat_ends, repeat_is_done}
use Rattle.pw_flow_ops.specs.Reading.{below_at}
use Rattle.pw_flow_ops.proofs.parts.read_temps.Goals as goal

pub returns-in_err-arg : goal.returns-in_err-arg
returns-in_err-arg c =
    let p = err_from_is_err_and c.from_residual.result c.from_residual.ensures.1 in
    rw (p.1, p.2) (repeat_ends (below_at c.args.temps) c.in_err-arg.field-0.0 c.loop.args c.args.count c.loop.counter c.loop.rest.now _ c.loop-test.true c.in_err-arg.ensures.found c.loop.invariant)

pub loop-preserved : goal.loop-preserved
loop-preserved c =
    rw c.in_ok-push.ensures (repeat_goes_on (below_at c.args.temps) c.loop.args c.args.count c.loop.counter c.loop.rest.now c.in_ok-arg.arg c.in_ok-arg.after.now _ c.loop-test.true c.in_ok-arg.ensures.found c.loop.invariant)

pub returns : goal.returns
returns c = repeat_is_done (below_at c.args.temps) c.loop.args c.args.count c.loop.counter c.loop.rest.now _ c.loop-test.false c.loop.invariant
