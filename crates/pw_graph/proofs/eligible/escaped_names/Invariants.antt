use Rattle.std.proofs.Common.{◌≡◌, map, take}
use Rattle.pw_graph.specs.Making.{all_escaped}
use Rattle.pw_graph.proofs.eligible.escaped_names.Given as goal

abbrev pub invariant-loop-each : goal.invariant-loop-each
invariant-loop-each l = map (λ n. n.now) l.names.items ≡ all_escaped (take l.each-index l.summaries)
