use Rattle.std.proofs.Common.{◌≡◌, ◌⊎◌, ℕ, take, vec_len}
use Rattle.std.specs.Prelude.{◌↔◌}
use Rattle.pw_fix.specs.Table.{HoldsAt}
use Rattle.pw_graph_refs.specs.Flows.{IsDelivered}
use Rattle.pw_graph_refs.proofs.flows.deliver.Given as goal

abbrev pub invariant-loop-from : goal.invariant-loop-from
invariant-loop-from l = record { count : vec_len l.table.rows ≡ vec_len l.fn.table.rows; size : l.table.len ≡ l.fn.table.len; holds : (n v : ℕ) → HoldsAt l.table n v ↔ (HoldsAt l.fn.table n v ⊎ IsDelivered (take l.from-index l.edges) l.values n v) }
