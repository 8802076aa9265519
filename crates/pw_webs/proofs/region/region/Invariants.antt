use Rattle.std.proofs.Common.{◌-◌}
use Rattle.pw_fix.specs.Row.{member_count}
use Rattle.pw_webs.proofs.RegionLaws.{IsSeed}
use Rattle.pw_webs.proofs.region.region.Given as goal

abbrev pub invariant-loop-set : goal.invariant-loop-set
invariant-loop-set l = IsSeed l.graph l.global l.set

abbrev pub decreases-loop-set : goal.decreases-loop-set
decreases-loop-set l = l.set.len - member_count l.set
