use Rattle.std.proofs.Common.{◌≡◌, ◌++◌, take}
use Rattle.pw_graph_refs.specs.Flows.{edges_of}
use Rattle.pw_graph_refs.proofs.flows.add_calls.Given as goal

abbrev pub invariant-loop-to : goal.invariant-loop-to
invariant-loop-to l = l.edges.items ≡ l.fn.edges.items ++ edges_of l.from (take l.to-index l.row)
