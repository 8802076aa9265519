use Rattle.std.proofs.lemmas.Result.{err_from_is_err_and}
use Rattle.pw_fields.proofs.FieldLoops.{repeat_goes_on, repeat_ends, repeat_is_done}
use Rattle.pw_flow_ops.specs.Reading.{op_at}
use Rattle.pw_flow_ops.proofs.op_reading.read_ops.Goals as goal

pub returns-in_err-op : goal.returns-in_err-op
returns-in_err-op c =
    let p = err_from_is_err_and c.from_residual.result c.from_residual.ensures.1 in
    rw (p.1, p.2) (repeat_ends (op_at c.args.names.now c.args.at.temps c.args.at.slots) c.in_err-op.field-0.0 c.loop.ops c.args.count c.loop.counter c.loop.rest.now _ c.loop-test.true c.in_err-op.ensures.found c.loop.invariant)

pub loop-preserved : goal.loop-preserved
loop-preserved c =
    rw c.in_ok-push.ensures (repeat_goes_on (op_at c.args.names.now c.args.at.temps c.args.at.slots) c.loop.ops c.args.count c.loop.counter c.loop.rest.now c.in_ok-op.op c.in_ok-op.after.now _ c.loop-test.true c.in_ok-op.ensures.found c.loop.invariant)

pub returns : goal.returns
returns c = repeat_is_done (op_at c.args.names.now c.args.at.temps c.args.at.slots) c.loop.ops c.args.count c.loop.counter c.loop.rest.now _ c.loop-test.false c.loop.invariant
