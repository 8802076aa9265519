use Rattle.std.proofs.Common.{◌≡◌, map, take}
use Rattle.pw_link.proofs.linking.each_object.Given as goal

abbrev pub invariant-loop-object : goal.invariant-loop-object
invariant-loop-object l = map (λ o. o.now) l.each.items ≡ take l.object-index l.objects
