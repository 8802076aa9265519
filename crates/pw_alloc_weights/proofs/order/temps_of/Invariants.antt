use Rattle.std.proofs.Common.{◌≡◌, map, take}
use Rattle.pw_alloc_weights.specs.declared.order.Weighed.{Weighed}
use Rattle.pw_alloc_weights.proofs.order.temps_of.Given as goal

abbrev pub invariant-loop-one : goal.invariant-loop-one
invariant-loop-one l = l.temps.items ≡ map (λ (w : Weighed). w.temp) (take l.one-index l.all)
