use Rattle.std.proofs.Common.{◌≡◌, ◌<◌, ℕ, length, vec_len}
use Rattle.std.specs.Prelude.{◌↔◌}
use Rattle.pw_fix.specs.Table.{HoldsAt}
use Rattle.pw_graph.specs.CallGraph.{References}
use Rattle.pw_graph_refs.proofs.flows.own_refs.Given as goal

abbrev pub invariant-loop-place : goal.invariant-loop-place
invariant-loop-place l = record { count : vec_len l.table.rows ≡ length l.graph.functions; size : l.table.len ≡ length l.graph.globals; holds : (n v : ℕ) → HoldsAt l.table n v ↔ ((n < l.place) × References l.graph n v) }
