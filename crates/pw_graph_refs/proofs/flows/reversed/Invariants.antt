use Rattle.std.proofs.Common.{◌≡◌, take}
use Rattle.pw_graph_refs.specs.Flows.{turned}
use Rattle.pw_graph_refs.proofs.flows.reversed.Given as goal

abbrev pub invariant-loop-from : goal.invariant-loop-from
invariant-loop-from l = l.back.items ≡ turned (take l.from-index l.edges)
