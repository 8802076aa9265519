use Rattle.std.proofs.Common.{ℕ, ◌<◌, All}
use Rattle.pw_tests_base.proofs.solver.graph_of.Given as goal

abbrev pub invariant-loop-from : goal.invariant-loop-from
invariant-loop-from g l = All (λ (e : ℕ × ℕ). (e.0 < l.nodes) × (e.1 < l.nodes)) l.edges.items
