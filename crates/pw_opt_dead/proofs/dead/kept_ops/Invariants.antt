use Rattle.std.proofs.Common.{length}
use Rattle.pw_opt_dead.proofs.Walking.{Walk}
use Rattle.pw_opt_dead.proofs.dead.kept_ops.Given as goal

abbrev pub invariant-loop-op : goal.invariant-loop-op
invariant-loop-op l = Walk l.quiet.flow.now l.fn.ops l.left l.fn.live l.live l.kept.items

abbrev pub decreases-loop-op : goal.decreases-loop-op
decreases-loop-op l = length l.left
