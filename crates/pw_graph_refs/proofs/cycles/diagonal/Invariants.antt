use Rattle.std.proofs.Common.{◌≡◌, ◌<◌, ℕ}
use Rattle.std.specs.Prelude.{◌↔◌}
use Rattle.pw_fix.specs.Row.{Holds}
use Rattle.pw_fix.specs.Table.{HoldsAt}
use Rattle.pw_graph_refs.proofs.cycles.diagonal.Given as goal

abbrev pub invariant-loop-place : goal.invariant-loop-place
invariant-loop-place l = record { size : l.row.len ≡ l.table.len; holds : (f : ℕ) → Holds l.row f ↔ ((f < l.place) × HoldsAt l.table f f) }
