use Rattle.std.proofs.Common.{◌≡◌, take}
use Rattle.pw_opt.proofs.again.same_ops.Given as goal

abbrev pub invariant-loop-op : goal.invariant-loop-op
invariant-loop-op l = l.same.items ≡ take l.op-index l.ops
