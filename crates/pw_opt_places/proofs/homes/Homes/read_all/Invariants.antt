use Rattle.std.proofs.Common.{◌≡◌, take}
use Rattle.pw_opt_places.specs.Homes.{with_reads}
use Rattle.pw_opt_places.proofs.homes.Homes.read_all.Given as goal

abbrev pub invariant-loop-t : goal.invariant-loop-t
invariant-loop-t l = l.self ≡ with_reads l.block l.fn.self (take l.t-index l.ts)
