use Rattle.std.proofs.Common.{ℕ}
use Rattle.std.specs.Prelude.{◌↔◌}
use Rattle.pw_fix.specs.Solution.{HasEdge}
use Rattle.pw_opt_rows.proofs.Ways.{IsEdgeBelow}
use Rattle.pw_opt_rows.proofs.edges.edges_of.Given as goal

abbrev pub invariant-loop-place : goal.invariant-loop-place
invariant-loop-place l = (m n : ℕ) → HasEdge l.edges.items m n ↔ IsEdgeBelow l.blocks l.place m n
