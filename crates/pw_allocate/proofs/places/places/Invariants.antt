use Rattle.std.proofs.Common.{◌≡◌, ◌≤◌, ◌+◌, ◌++◌, drop}
use Rattle.pw_alloc.specs.Allocation.{in_frame}
use Rattle.pw_alloc_temps.specs.Temporaries.{placed}
use Rattle.pw_allocate.proofs.places.places.Given as goal

abbrev pub invariant-loop-given : goal.invariant-loop-given
invariant-loop-given l = record {
  so_far : l.places ++ placed l.head l.saved l.count (drop l.given-index l.registers) ≡ placed l.head l.saved 0 l.registers;
  counted : l.count + in_frame (placed l.head l.saved l.count (drop l.given-index l.registers)) ≡ in_frame (placed l.head l.saved 0 l.registers);
  few : l.count ≤ l.given-index;
}
