use Rattle.std.proofs.Common.{◌≡◌, ◌++◌, map, take}
use Rattle.pw_graph.specs.Making.{home, homes_in}
use Rattle.pw_graph.proofs.homes.add_homes.Given as goal

abbrev pub invariant-loop-i : goal.invariant-loop-i
invariant-loop-i l = map home l.all.items ≡ map home l.fn.all.items ++ homes_in (take l.i l.functions) l.uses
