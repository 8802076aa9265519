use Rattle.std.proofs.Common.{length}
use Rattle.std.specs.List.{AllByRecursion}
use Rattle.pw_phase_two.specs.Numbers.{HasWordNumbers}
use Rattle.pw_phase_two.proofs.numbers.fixes_fit.Given as goal

abbrev pub invariant-loop-rest : goal.invariant-loop-rest
invariant-loop-rest l = AllByRecursion HasWordNumbers l.rest → AllByRecursion HasWordNumbers l.fixes

abbrev pub decreases-loop-rest : goal.decreases-loop-rest
decreases-loop-rest l = length l.rest
