use Rattle.std.proofs.Common.{◌≡◌, map, take}
use Rattle.pw_lower.specs.Modules.{lowered_global}
use Rattle.pw_typed.specs.Views.{view_global}
use Rattle.pw_lower_places.proofs.objects.lower_globals.Given as goal

abbrev pub invariant-loop-g : goal.invariant-loop-g
invariant-loop-g l = l.globals ≡ map (lowered_global l.name l.types) (map view_global (take l.g-index l.all))
