use Rattle.std.proofs.Common.{◌≡◌, ◌<◌, ℕ, vec_len}
use Rattle.std.specs.Prelude.{◌↔◌}
use Rattle.pw_fix.specs.Table.{HoldsAt}
use Rattle.pw_graph_refs.proofs.cycles.own_places.Given as goal

abbrev pub invariant-loop-place : goal.invariant-loop-place
invariant-loop-place l = record { count : vec_len l.table.rows ≡ l.count; size : l.table.len ≡ l.count; holds : (n v : ℕ) → HoldsAt l.table n v ↔ ((n < l.place) × (v ≡ n)) }
