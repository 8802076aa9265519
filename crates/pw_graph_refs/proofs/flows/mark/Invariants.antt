use Rattle.std.proofs.Common.{◌≡◌, ◌⊎◌, ℕ, take, vec_len}
use Rattle.std.specs.Prelude.{◌↔◌}
use Rattle.pw_fix.specs.Table.{HoldsAt}
use Rattle.pw_graph_refs.specs.Flows.{IsMarked}
use Rattle.pw_graph_refs.proofs.flows.mark.Given as goal

abbrev pub invariant-loop-each : goal.invariant-loop-each
invariant-loop-each l = record { count : vec_len l.table.rows ≡ vec_len l.fn.table.rows; size : l.table.len ≡ l.fn.table.len; holds : (n v : ℕ) → HoldsAt l.table n v ↔ (HoldsAt l.fn.table n v ⊎ ((n ≡ l.place) × IsMarked (take l.each-index l.refs) v)) }
