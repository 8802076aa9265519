use Rattle.std.proofs.Common.{◌≡◌, map, take}
use Rattle.pw_colour.specs.Giving.{coloured as seen, entries_from}
use Rattle.pw_colour.proofs.directing.database.Given as goal

abbrev pub invariant-loop-place : goal.invariant-loop-place
invariant-loop-place l = l.entries ≡ entries_from l.graph l.clusters.roots.now (map seen l.coloured) 0 (take l.place l.graph.functions)
