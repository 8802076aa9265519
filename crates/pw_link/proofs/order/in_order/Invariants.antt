use Rattle.std.proofs.Common.{◌≡◌, map, take}
use Rattle.pw_link.specs.Layout.{in_order}
use Rattle.pw_link.proofs.order.in_order.Given as goal

abbrev pub invariant-loop-object : goal.invariant-loop-object
invariant-loop-object l = map (λ o. o.now) l.order.items ≡ in_order (map (λ o. o.now) (take l.object-index l.objects))
