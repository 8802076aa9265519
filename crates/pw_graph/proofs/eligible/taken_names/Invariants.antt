use Rattle.std.proofs.Common.{◌≡◌, map, take}
use Rattle.pw_graph.specs.Making.{all_taken}
use Rattle.pw_graph.proofs.eligible.taken_names.Given as goal

abbrev pub invariant-loop-each : goal.invariant-loop-each
invariant-loop-each l = map (λ n. n.now) l.names.items ≡ all_taken (take l.each-index l.summaries)
