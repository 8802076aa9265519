use Rattle.std.proofs.Common.{◌<◌, ℕ}
use Rattle.std.specs.Prelude.{◌↔◌}
use Rattle.pw_fix.specs.Solution.{HasEdge}
use Rattle.pw_live_fronts.specs.Flowing.{IsEdge}
use Rattle.pw_live_fronts.proofs.edges.edges_of.Given as goal

abbrev pub invariant-loop-place : goal.invariant-loop-place
invariant-loop-place l = (m n : ℕ) → HasEdge l.edges.items m n ↔ ((e : IsEdge l.f m n) × (e.before < l.place))
