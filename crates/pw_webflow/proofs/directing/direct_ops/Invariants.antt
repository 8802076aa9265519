use Rattle.std.proofs.Common.{◌≡◌, map, take}
use Rattle.pw_webflow.specs.Direction.{directed_op}
use Rattle.pw_webflow.proofs.directing.direct_ops.Given as goal

abbrev pub invariant-loop-op : goal.invariant-loop-op
invariant-loop-op l = l.directed ≡ map (directed_op l.webs) (take l.op-index l.ops)
