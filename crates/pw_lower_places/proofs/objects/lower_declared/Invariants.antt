use Rattle.std.proofs.Common.{◌≡◌, map, take}
use Rattle.pw_lower.specs.Modules.{lowered_declared}
use Rattle.pw_typed.specs.Views.{view_declared}
use Rattle.pw_lower_places.proofs.objects.lower_declared.Given as goal

abbrev pub invariant-loop-d : goal.invariant-loop-d
invariant-loop-d l = l.declared ≡ map (lowered_declared l.types) (map view_declared (take l.d-index l.all))
