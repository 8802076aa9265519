use Rattle.std.proofs.Common.{◌≡◌, [], None, length, reverse}
use Rattle.pw_cpp_condition.specs.Machine.{run}
use Rattle.pw_cpp_condition.proofs.evaluation.run.Given as goal

-- what is left gives the answer
abbrev pub invariant-loop-rest : goal.invariant-loop-rest
invariant-loop-rest l = run l.last (reverse l.frames) l.rest ≡ run None [] l.items

abbrev pub decreases-loop-rest : goal.decreases-loop-rest
decreases-loop-rest l = length l.rest
