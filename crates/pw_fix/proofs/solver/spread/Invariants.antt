use Rattle.std.proofs.Common.{◌≡◌, ℕ, ◌+◌, ◌≤◌, length, All, Contains, Some, slice_get, take}
use Rattle.pw_fix.specs.Spread.{IsSpread, room}
use Rattle.pw_fix.specs.Waiting.{IsWaiting, node_count, waiting_count}
use Rattle.pw_fix.proofs.solver.spread.Given as goal

abbrev pub invariant-loop-node : goal.invariant-loop-node
invariant-loop-node g l = let m = g.L.Lattice in record {
  each : length l.inflows ≡ length l.fn.inflows;
  own : All (m.is_own l.lattice) l.inflows;
  nodes : node_count l.waiting ≡ node_count l.fn.waiting;
  kept : (n : ℕ) → IsWaiting l.fn.waiting n → IsWaiting l.waiting n;
  flows : (s : ℕ) (y z : g.row.L-Elem.Denot) → slice_get l.fn.inflows s ≡ Some y → slice_get l.inflows s ≡ Some z
      → IsSpread (m.is_own l.lattice) (m.is_below l.lattice) (Contains (take l.node-index l.successors) s) l.value y z (IsWaiting l.waiting s);
  room : (height : ℕ) → ((x : g.row.L-Elem.Denot) → m.is_own l.lattice x → m.rank l.lattice x ≤ height)
      → waiting_count l.waiting + room (m.rank l.lattice) height l.inflows ≤ waiting_count l.fn.waiting + room (m.rank l.lattice) height l.fn.inflows;
}
