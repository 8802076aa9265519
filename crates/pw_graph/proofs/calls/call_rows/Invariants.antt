use Rattle.std.proofs.Common.{map, take}
use Rattle.std.specs.List.{AllZip}
use Rattle.pw_graph.specs.Making.{home as seen, target, IsCallRow}
use Rattle.pw_graph.proofs.calls.call_rows.Given as goal

abbrev pub invariant-loop-home : goal.invariant-loop-home
invariant-loop-home l = AllZip (IsCallRow l.names (map target l.targets)) (map seen (take l.home-index l.homes)) l.rows
