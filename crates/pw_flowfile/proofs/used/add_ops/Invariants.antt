use Rattle.std.proofs.Common.{◌≡◌, ◌++◌, map, take}
use Rattle.std.specs.List.{flat_map}
use Rattle.pw_flow.specs.FlowGraph.{op_names}
use Rattle.pw_flowfile.proofs.used.add_ops.Given as goal

abbrev pub invariant-loop-op : goal.invariant-loop-op
invariant-loop-op l = map (λ name. name.now) l.used.items ≡ map (λ name. name.now) l.fn.used.items ++ flat_map op_names (take l.op-index l.ops)
