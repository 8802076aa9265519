use Rattle.std.proofs.Common.{◌≡◌, ◌+◌, ◌≤◌, length}
use Rattle.pw_alloc.specs.Allocation.{in_frame}
use Rattle.pw_select.proofs.selecting.in_frame.Given as goal

abbrev pub invariant-loop-rest : goal.invariant-loop-rest
invariant-loop-rest l = record {
  value : l.count + in_frame l.rest ≡ in_frame l.places;
  small : l.count + length l.rest ≤ length l.places;
}

abbrev pub decreases-loop-rest : goal.decreases-loop-rest
decreases-loop-rest l = length l.rest
