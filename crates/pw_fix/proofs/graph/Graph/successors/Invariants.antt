use Rattle.std.proofs.Common.{◌≡◌, ℕ, Contains, [], Some, slice_get, vec_len, take, ◌↔◌}
use Rattle.smallvec.specs.SmallVec.{SmallVec}
use Rattle.pw_fix.specs.Solution.{HasEdge}
use Rattle.pw_fix.proofs.graph.Graph.successors.Given as goal

abbrev pub invariant-loop : goal.invariant-loop
invariant-loop l = record {
  each : vec_len l.rows ≡ l.counter;
  empty : (m : ℕ) (row : SmallVec ℕ) → slice_get l.rows.items m ≡ Some row → row.items ≡ [];
}

abbrev pub invariant-loop-from : goal.invariant-loop-from
invariant-loop-from l = record {
  each : vec_len l.rows ≡ l.self.nodes;
  exact : (m n : ℕ) (row : SmallVec ℕ) → slice_get l.rows.items m ≡ Some row → Contains row.items n ↔ HasEdge (take l.from-index l.self.edges.items) m n;
}
