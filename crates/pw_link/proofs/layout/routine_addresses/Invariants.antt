use Rattle.std.proofs.Common.{◌≡◌, map, take}
use Rattle.pw_link.specs.Views.{placed_view}
use Rattle.pw_link.proofs.layout.routine_addresses.Given as goal

abbrev pub invariant-loop-each : goal.invariant-loop-each
invariant-loop-each l = l.addresses.items ≡ map (λ p. p.address) (map placed_view (take l.each-index l.each-items))
