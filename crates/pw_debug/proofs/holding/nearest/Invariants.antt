use Rattle.std.proofs.Common.{◌≡◌, None, length}
use Rattle.pw_debug.specs.Holding.{nearest}
use Rattle.pw_debug.proofs.holding.nearest.Given as goal

abbrev pub invariant-loop-rest : goal.invariant-loop-rest
invariant-loop-rest l = nearest l.address l.greatest l.rest ≡ nearest l.address None l.functions

abbrev pub decreases-loop-rest : goal.decreases-loop-rest
decreases-loop-rest l = length l.rest
