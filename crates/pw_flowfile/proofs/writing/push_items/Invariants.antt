use Rattle.std.proofs.Common.{◌≡◌, ◌++◌, take}
use Rattle.std.specs.List.{flat_map}
use Rattle.pw_flowfile.specs.FlowFile.{placed_item}
use Rattle.pw_flowfile.proofs.writing.push_items.Given as goal

abbrev pub invariant-loop-placed : goal.invariant-loop-placed
invariant-loop-placed l = l.out.items ≡ l.fn.out.items ++ flat_map (placed_item l.names) (take l.placed-index l.items)
