use Rattle.std.specs.Prelude.{Contains}
use Rattle.pw_flow.specs.FlowGraph.{op_names}
use Rattle.pw_flow_ops.proofs.FlatLists.{flat_at}
use Rattle.pw_flow_ops.proofs.op_writing.push_ops.Goals as goal

pub push_op-requires-clause-stands : goal.push_op-requires-clause-stands
push_op-requires-clause-stands c = flat_at op_names (Contains c.args.names.now) c.args.ops.now c.requires.stand c.loop-op.op-index c.op-item.result c.loop-op-test.true c.op-item.is
