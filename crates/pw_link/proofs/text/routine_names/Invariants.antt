use Rattle.std.proofs.Common.{◌≡◌, map, take}
use Rattle.pw_milli.specs.Library.{routines}
use Rattle.pw_link.proofs.text.routine_names.Given as goal

abbrev pub invariant-loop-routine : goal.invariant-loop-routine
invariant-loop-routine l = l.names.items ≡ map (λ r. r.0) (take l.routine-index routines)
