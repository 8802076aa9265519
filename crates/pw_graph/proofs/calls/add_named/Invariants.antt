use Rattle.std.proofs.Common.{◌≡◌, ◌⊎◌, ◌↔◌, ℕ, take}
use Rattle.std.specs.Prelude.{Contains}
use Rattle.std.specs.List.{filter_map}
use Rattle.pw_fix.specs.Row.{Holds}
use Rattle.pw_graph.specs.Making.{place_in}
use Rattle.pw_graph.proofs.calls.add_named.Given as goal

abbrev pub invariant-loop-name : goal.invariant-loop-name
invariant-loop-name l = record { same : l.row.len ≡ l.fn.row.len; holds : (b : ℕ) → Holds l.row b ↔ (Holds l.fn.row b ⊎ Contains (filter_map (place_in l.names) (take l.name-index l.calls)) b) }
