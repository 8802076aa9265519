use Rattle.std.proofs.Common.{◌≡◌, All, vec_len}
use Rattle.pw_fix.specs.Order.{IsLeast}
use Rattle.pw_fix.proofs.solver.bottoms.Given as goal

abbrev pub invariant-loop : goal.invariant-loop
invariant-loop g l = record {
  each : vec_len l.all ≡ l.counter;
  least : All (IsLeast (g.L.Lattice.is_own l.lattice) (g.L.Lattice.is_below l.lattice)) l.all.items;
}
