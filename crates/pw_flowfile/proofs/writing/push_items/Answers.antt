use Rattle.std.specs.Prelude.{Contains}
use Rattle.pw_flow.specs.FlowGraph.{item_names}
use Rattle.pw_flow_ops.proofs.FlatLists.{flat_at}
use Rattle.pw_flowfile.proofs.writing.push_items.Goals as goal

pub push_item-requires-clause-stands : goal.push_item-requires-clause-stands
push_item-requires-clause-stands c = flat_at (λ placed. item_names placed.1) (Contains c.args.names.now) c.args.items.now c.requires.stand c.loop-placed.placed-index c.placed-item.result c.loop-placed-test.true c.placed-item.is
