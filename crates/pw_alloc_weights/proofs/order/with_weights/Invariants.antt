use Rattle.std.proofs.Common.{◌≡◌, take}
use Rattle.pw_alloc_weights.specs.Ordering.{numbered}
use Rattle.pw_alloc_weights.proofs.order.with_weights.Given as goal

abbrev pub invariant-loop-temp : goal.invariant-loop-temp
invariant-loop-temp l = l.all.items ≡ numbered 0 (take l.temp l.weights)
