use Rattle.std.proofs.Common.{◌≡◌, length}
use Rattle.std.specs.List.{AllByRecursion}
use Rattle.pw_debug.specs.Knowing.{IsKept}
use Rattle.pw_debug.specs.Walk.{given_back}
use Rattle.pw_debug.proofs.turning.given_back.Given as goal

abbrev pub invariant-loop-rest : goal.invariant-loop-rest
invariant-loop-rest l =
    AllByRecursion (λ s. IsKept s.0) l.rest × (given_back l.machine.core.memory l.stack l.rest l.registers ≡ given_back l.machine.core.memory l.stack l.saved l.initial.registers)

abbrev pub decreases-loop-rest : goal.decreases-loop-rest
decreases-loop-rest l = length l.rest
