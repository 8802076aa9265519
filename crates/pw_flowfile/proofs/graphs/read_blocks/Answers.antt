use Rattle.std.proofs.lemmas.Result.{err_from_is_err_and}
use Rattle.pw_fields.proofs.FieldLoops.{repeat_goes_on, repeat_ends, repeat_is_done}
use Rattle.pw_flowfile.specs.Reading.{block_at}
use Rattle.pw_flowfile.proofs.graphs.read_blocks.Goals as goal

pub returns-in_err-block : goal.returns-in_err-block
returns-in_err-block c =
    let p = err_from_is_err_and c.from_residual.result c.from_residual.ensures.1 in
    rw (p.1, p.2) (repeat_ends (block_at c.args.names.now c.args.at.temps c.args.at.slots c.args.count) c.in_err-block.field-0.0 c.loop.blocks c.args.count c.loop.counter c.loop.rest.now _ c.loop-test.true c.in_err-block.ensures c.loop.invariant)

pub loop-preserved : goal.loop-preserved
loop-preserved c =
    let more = c.in_ok-push.ensures in
    rw more (repeat_goes_on (block_at c.args.names.now c.args.at.temps c.args.at.slots c.args.count) c.loop.blocks c.args.count c.loop.counter c.loop.rest.now c.in_ok-block.block c.in_ok-block.after.now _ c.loop-test.true c.in_ok-block.ensures c.loop.invariant)

pub returns : goal.returns
returns c = repeat_is_done (block_at c.args.names.now c.args.at.temps c.args.at.slots c.args.count) c.loop.blocks c.args.count c.loop.counter c.loop.rest.now _ c.loop-test.false c.loop.invariant
