use Rattle.std.proofs.Common.{◌≡◌, ◌⊎◌, ℕ, map, take}
use Rattle.std.specs.Prelude.{Contains, ◌↔◌}
use Rattle.pw_fix.specs.Row.{Holds}
use Rattle.pw_graph.specs.Making.{target, of_shape}
use Rattle.pw_graph.proofs.calls.add_shape.Given as goal

abbrev pub invariant-loop-target : goal.invariant-loop-target
invariant-loop-target l = record { same : l.row.len ≡ l.fn.row.len; holds : (b : ℕ) → Holds l.row b ↔ (Holds l.fn.row b ⊎ Contains (of_shape (take l.target-index (map target l.targets)) l.shape) b) }
