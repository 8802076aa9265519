use Rattle.std.proofs.Common.{◌≡◌, take}
use Rattle.pw_opt_places.specs.Homes.{with_ops}
use Rattle.pw_opt_places.proofs.homes.Homes.follow_all.Given as goal

abbrev pub invariant-loop-op : goal.invariant-loop-op
invariant-loop-op l = l.self ≡ with_ops l.block l.fn.self (take l.op-index l.ops)
