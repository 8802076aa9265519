use Rattle.std.proofs.Common.{◌≡◌, map, take}
use Rattle.pw_link_interface.specs.Interface.{interface}
use Rattle.pw_link_interface.proofs.objects.interfaces.Given as goal

abbrev pub invariant-loop-object : goal.invariant-loop-object
invariant-loop-object l = l.all.items ≡ map (λ o. interface o.now) (take l.object-index l.objects)
