use Rattle.std.specs.Prelude.{Contains}
use Rattle.pw_flow.specs.FlowGraph.{names_in_block}
use Rattle.pw_flow_ops.proofs.FlatLists.{flat_at}
use Rattle.pw_flowfile.proofs.writing.push_blocks.Goals as goal

pub push_block-requires-clause-stand : goal.push_block-requires-clause-stand
push_block-requires-clause-stand c = flat_at names_in_block (Contains c.args.names.now) c.args.blocks.now c.requires.stand c.loop-block.block-index c.block-item.result c.loop-block-test.true c.block-item.is
