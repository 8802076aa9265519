use Rattle.std.proofs.Common.{◌≡◌, ◌⊎◌, ◌↔◌, ℕ, map, take}
use Rattle.std.specs.Prelude.{Contains}
use Rattle.std.specs.List.{flat_map}
use Rattle.pw_fix.specs.Row.{Holds}
use Rattle.pw_graph.specs.Making.{target, of_shape}
use Rattle.pw_graph.proofs.calls.add_shapes.Given as goal

abbrev pub invariant-loop-shape : goal.invariant-loop-shape
invariant-loop-shape l = record { same : l.row.len ≡ l.fn.row.len; holds : (b : ℕ) → Holds l.row b ↔ (Holds l.fn.row b ⊎ Contains (flat_map (of_shape (map target l.targets)) (take l.shape-index l.shapes)) b) }
