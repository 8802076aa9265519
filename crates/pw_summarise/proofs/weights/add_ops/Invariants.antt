use Rattle.std.proofs.Common.{◌≡◌, map, take}
use Rattle.pw_summarise.specs.Tallies.{with_ops}
use Rattle.pw_summarise.proofs.weights.add_ops.Given as goal

abbrev pub invariant-loop-op : goal.invariant-loop-op
invariant-loop-op l = l.refs ≡ map (with_ops l.weight (take l.op-index l.ops)) l.fn.refs
