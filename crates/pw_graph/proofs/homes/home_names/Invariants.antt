use Rattle.std.proofs.Common.{◌≡◌, map, take}
use Rattle.pw_graph.specs.Making.{home}
use Rattle.pw_graph.proofs.homes.home_names.Given as goal

abbrev pub invariant-loop-home : goal.invariant-loop-home
invariant-loop-home l = map (λ n. n.now) l.names.items ≡ map (λ h. h.0) (map home (take l.home-index l.homes))
