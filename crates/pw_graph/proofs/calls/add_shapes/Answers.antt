use Rattle.std.proofs.Common.{◌∙◌, map}
use Rattle.pw_graph.specs.Making.{target, of_shape}
use Rattle.pw_graph.proofs.Steps.{flat_put, at_flat_end}
use Rattle.pw_graph.proofs.calls.add_shapes.Goals as goal

pub loop-shape-preserved : goal.loop-shape-preserved
loop-shape-preserved c = record {
  same = c.add_shape.ensures.length ∙ c.loop-shape.invariant.same;
  holds = flat_put (of_shape (map target c.args.targets.now)) c.args.shapes.now c.loop-shape.shape-index c.shape-item.result c.args.row.now c.loop-shape.row c.add_shape.new.row c.loop-shape-test.true c.shape-item.is c.loop-shape.invariant.holds c.add_shape.ensures.holds;
}

pub returns-clause-holds : goal.returns-clause-holds
returns-clause-holds c = at_flat_end (of_shape (map target c.args.targets.now)) c.args.shapes.now c.loop-shape.shape-index c.args.row.now c.loop-shape.row c.loop-shape-test.false c.loop-shape.invariant.holds
