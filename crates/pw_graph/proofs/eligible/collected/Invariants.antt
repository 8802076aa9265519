use Rattle.std.proofs.Common.{◌≡◌, map, take}
use Rattle.pw_graph.specs.Making.{scalar, all_eligible}
use Rattle.pw_graph.proofs.eligible.collected.Given as goal

abbrev pub invariant-loop-each : goal.invariant-loop-each
invariant-loop-each l = map scalar l.found.items ≡ all_eligible l.taken l.escaped (take l.each-index l.summaries)
