use Rattle.std.proofs.Common.{◌≡◌, length}
use Rattle.pw_alloc.specs.Allocation.{is_entered}
use Rattle.pw_alloc.proofs.entered.is_entered.Given as goal

abbrev pub invariant-loop-rest : goal.invariant-loop-rest
invariant-loop-rest l = is_entered l.rest l.r ≡ is_entered l.webs l.r

abbrev pub decreases-loop-rest : goal.decreases-loop-rest
decreases-loop-rest l = length l.rest
