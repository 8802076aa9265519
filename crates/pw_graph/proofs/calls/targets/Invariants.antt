use Rattle.std.proofs.Common.{◌≡◌, map, take}
use Rattle.pw_graph.specs.Making.{home, target, targets_from}
use Rattle.pw_graph.proofs.calls.targets.Given as goal

abbrev pub invariant-loop-place : goal.invariant-loop-place
invariant-loop-place l = map target l.found.items ≡ targets_from l.taken 0 (take l.place (map home l.homes))
