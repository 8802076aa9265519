use Rattle.std.proofs.Common.{◌≡◌, ◌++◌, map, take}
use Rattle.std.specs.List.{flat_map}
use Rattle.pw_flow.specs.FlowGraph.{item_names}
use Rattle.pw_flow.proofs.names.add_items.Given as goal

abbrev pub invariant-loop-item : goal.invariant-loop-item
invariant-loop-item l = map (λ name. name.now) l.names.items ≡ map (λ name. name.now) l.fn.names.items ++ flat_map (λ placed. item_names placed.1) (take l.item-index l.items)
