use Rattle.std.proofs.Common.{◌≡◌, ◌++◌, map, take}
use Rattle.std.specs.List.{flat_map}
use Rattle.pw_flow.specs.FlowGraph.{names_in_global}
use Rattle.pw_flow.proofs.names.add_items_of_all.Given as goal

abbrev pub invariant-loop-global : goal.invariant-loop-global
invariant-loop-global l = map (λ name. name.now) l.names.items ≡ map (λ name. name.now) l.fn.names.items ++ flat_map names_in_global (take l.global-index l.globals)
