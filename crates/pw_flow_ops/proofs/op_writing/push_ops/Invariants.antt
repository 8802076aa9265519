use Rattle.std.proofs.Common.{◌≡◌, ◌++◌, take}
use Rattle.std.specs.List.{flat_map}
use Rattle.pw_flow_ops.specs.Operations.{op}
use Rattle.pw_flow_ops.proofs.op_writing.push_ops.Given as goal

abbrev pub invariant-loop-op : goal.invariant-loop-op
invariant-loop-op l = l.out.items ≡ l.fn.out.items ++ flat_map (op l.names) (take l.op-index l.ops)
