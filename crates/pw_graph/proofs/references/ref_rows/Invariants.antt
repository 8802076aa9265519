use Rattle.std.proofs.Common.{◌≡◌, map, take}
use Rattle.pw_graph.specs.Making.{home as seen, ref_row}
use Rattle.pw_graph.proofs.references.ref_rows.Given as goal

abbrev pub invariant-loop-home : goal.invariant-loop-home
invariant-loop-home l = l.rows ≡ map (λ h. ref_row l.globals h.2) (map seen (take l.home-index l.homes))
