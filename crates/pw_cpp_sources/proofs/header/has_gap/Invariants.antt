use Rattle.std.proofs.Common.{◌≡◌, length}
use Rattle.pw_cpp_sources.specs.Sources.{has_gap}
use Rattle.pw_cpp_sources.proofs.header.has_gap.Given as goal

-- no gap stands before what is left
abbrev pub invariant-loop-rest : goal.invariant-loop-rest
invariant-loop-rest l = has_gap l.name ≡ has_gap l.rest

abbrev pub decreases-loop-rest : goal.decreases-loop-rest
decreases-loop-rest l = length l.rest
