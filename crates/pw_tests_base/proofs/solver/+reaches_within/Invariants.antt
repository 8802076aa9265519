use Rattle.std.proofs.Common.{ℕ, ◌<◌, ◌-◌, ◌+◌, take, ◌≡◌, ◌≢◌}
use Rattle.pw_fix.specs.Solution.{HasEdge}
use Rattle.pw_fix.specs.Walks.{Reaches}
use Rattle.pw_tests_base.proofs.solver.+reaches_within.Given as goal

abbrev pub decreases-reaches_within : goal.decreases-reaches_within
decreases-reaches_within l = l.steps

-- none of the edges so far ends such a walk
abbrev pub invariant-loop-before : goal.invariant-loop-before
invariant-loop-before l = (k : ℕ) → HasEdge (take l.before-index l.edges) k l.to → Reaches l.edges (l.steps - 1) l.from k → ⊥
