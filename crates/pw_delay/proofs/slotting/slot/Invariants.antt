use Rattle.std.proofs.Common.{◌≡◌, ◌++◌, length}
use Rattle.pw_delay.specs.Items.{slotted}
use Rattle.pw_delay.proofs.slotting.slot.Given as goal

abbrev pub invariant-loop-rest : goal.invariant-loop-rest
invariant-loop-rest l = l.items ++ slotted l.rest ≡ slotted l.lines

abbrev pub decreases-loop-rest : goal.decreases-loop-rest
decreases-loop-rest l = length l.rest
