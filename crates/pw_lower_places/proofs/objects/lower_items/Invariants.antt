use Rattle.std.proofs.Common.{◌≡◌, map, take}
use Rattle.pw_lower.specs.Modules.{lowered_item}
use Rattle.pw_typed.specs.Views.{view_placed}
use Rattle.pw_lower_places.proofs.objects.lower_items.Given as goal

abbrev pub invariant-loop-offset : goal.invariant-loop-offset
invariant-loop-offset l = l.items ≡ map (lowered_item l.name) (map view_placed (take l.offset-index l.all))
