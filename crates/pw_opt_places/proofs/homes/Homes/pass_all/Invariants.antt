use Rattle.std.proofs.Common.{◌≡◌, take}
use Rattle.pw_opt_places.specs.Homes.{with_blocks}
use Rattle.pw_opt_places.proofs.homes.Homes.pass_all.Given as goal

abbrev pub invariant-loop-place : goal.invariant-loop-place
invariant-loop-place l = l.self ≡ with_blocks 0 l.fn.self (take l.place l.blocks)
