use Rattle.std.proofs.Common.{◌≡◌, map, take}
use Rattle.std.specs.List.{flat_map}
use Rattle.pw_link.proofs.data.globals_of.Given as goal

abbrev pub invariant-loop-object : goal.invariant-loop-object
invariant-loop-object l = map (λ g. g.now) l.all.items ≡ flat_map (λ o. o.globals) (map (λ o. o.now) (take l.object-index l.order))
