use Rattle.std.proofs.Common.{◌≡◌, ◌+◌}
use Rattle.pw_fix.specs.Spread.{room}
use Rattle.pw_fix.specs.Waiting.{IsWaiting, node_count, waiting_count}
use Rattle.pw_fix.proofs.Progress.{IsProgress}
use Rattle.pw_fix.proofs.solver.solve.Given as goal

abbrev pub invariant-loop-node : goal.invariant-loop-node
invariant-loop-node g l = let m = g.P.L.Lattice in record {
  progress : IsProgress (m.is_own l.lattice) (m.is_below l.lattice) (g.P.Problem.gives l.problem) l.graph.edges.items l.graph.nodes l.values.items l.inflows.items (IsWaiting l.waiting);
  nodes : node_count l.waiting ≡ l.graph.nodes;
  own : m.is_own l.lattice l.outflow;
}

-- each visit takes a node from those that wait, and each node that comes to wait has less room to rise
abbrev pub decreases-loop-node : goal.decreases-loop-node
decreases-loop-node g l = waiting_count l.waiting + room (g.P.L.Lattice.rank l.lattice) (g.P.Problem.height_of l.problem) l.inflows.items
