use Rattle.std.proofs.Common.{◌≡◌, take}
use Rattle.pw_graph_refs.specs.Flows.{edges_from}
use Rattle.pw_graph_refs.proofs.flows.calls_of.Given as goal

abbrev pub invariant-loop-from : goal.invariant-loop-from
invariant-loop-from l = l.edges.items ≡ edges_from 0 (take l.from l.graph.calls)
