use Rattle.std.proofs.Common.{◌-◌}
use Rattle.pw_fix.specs.Row.{member_count}
use Rattle.pw_cluster_roots.specs.Rounds.{AreSettled}
use Rattle.pw_cluster_roots.proofs.rounds.roots_among.Given as goal

abbrev pub invariant-loop-roots : goal.invariant-loop-roots
invariant-loop-roots l = AreSettled l.graph l.inner l.settled l.roots.items

abbrev pub decreases-loop-roots : goal.decreases-loop-roots
decreases-loop-roots l = l.settled.len - member_count l.settled
