use Rattle.std.specs.Prelude.{Contains}
use Rattle.pw_flowfile.specs.FlowFile.{all_in_function}
use Rattle.pw_flow_ops.proofs.FlatLists.{flat_at}
use Rattle.pw_flowfile.proofs.writing.push_function_items.Goals as goal

pub push_function-requires-clause-stand : goal.push_function-requires-clause-stand
push_function-requires-clause-stand c = flat_at all_in_function (Contains c.args.names.now) c.args.functions.now c.requires.stand c.loop-function.function-index c.function-item.result c.loop-function-test.true c.function-item.is
