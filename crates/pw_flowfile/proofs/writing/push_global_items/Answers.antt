use Rattle.std.specs.Prelude.{Contains}
use Rattle.pw_flowfile.specs.FlowFile.{all_in_global}
use Rattle.pw_flow_ops.proofs.FlatLists.{flat_at}
use Rattle.pw_flowfile.proofs.writing.push_global_items.Goals as goal

pub push_global-requires-clause-stand : goal.push_global-requires-clause-stand
push_global-requires-clause-stand c = flat_at all_in_global (Contains c.args.names.now) c.args.globals.now c.requires.stand c.loop-global.global-index c.global-item.result c.loop-global-test.true c.global-item.is
