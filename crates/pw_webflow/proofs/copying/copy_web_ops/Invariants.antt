use Rattle.std.proofs.Common.{◌≡◌, take}
use Rattle.pw_webflow.proofs.copying.copy_web_ops.Given as goal

abbrev pub invariant-loop-op : goal.invariant-loop-op
invariant-loop-op l = l.copies ≡ take l.op-index l.ops
