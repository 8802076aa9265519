use Rattle.std.proofs.Common.{◌≡◌, ◌++◌, take}
use Rattle.std.specs.List.{flat_map}
use Rattle.pw_flowfile.specs.FlowFile.{global}
use Rattle.pw_flowfile.proofs.writing.push_global_items.Given as goal

abbrev pub invariant-loop-global : goal.invariant-loop-global
invariant-loop-global l = l.out.items ≡ l.fn.out.items ++ flat_map (global l.names) (take l.global-index l.globals)
