use Rattle.std.proofs.Common.{◌≡◌, ◌++◌, [], map, take}
use Rattle.std.specs.List.{flat_map}
use Rattle.pw_graph.specs.Making.{home, homes_in, module_homes}
use Rattle.pw_graph.proofs.homes.collected.Given as goal

abbrev pub invariant-loop-each : goal.invariant-loop-each
invariant-loop-each l = map home l.all.items ≡ homes_in l.library.declared [] ++ flat_map module_homes (take l.each-index l.summaries)
