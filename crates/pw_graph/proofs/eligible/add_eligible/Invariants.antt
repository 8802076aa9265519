use Rattle.std.proofs.Common.{◌≡◌, ◌++◌, map, take}
use Rattle.pw_graph.specs.Making.{scalar, eligible_in}
use Rattle.pw_graph.proofs.eligible.add_eligible.Given as goal

abbrev pub invariant-loop-global : goal.invariant-loop-global
invariant-loop-global l = map scalar l.found.items ≡ map scalar l.fn.found.items ++ eligible_in l.taken l.escaped (take l.global-index l.globals)
