use Rattle.std.proofs.Common.{◌≡◌, map, take}
use Rattle.pw_graph.specs.Making.{home as seen, need_of}
use Rattle.pw_graph.proofs.homes.home_needs.Given as goal

abbrev pub invariant-loop-home : goal.invariant-loop-home
invariant-loop-home l = l.needs ≡ map (λ h. need_of h.2) (map seen (take l.home-index l.homes))
