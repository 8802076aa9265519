use Rattle.std.proofs.Common.{◌≡◌, take}
use Rattle.std.specs.List.{filter_map}
use Rattle.pw_graph.specs.Making.{placed}
use Rattle.pw_graph.proofs.references.placed.Given as goal

abbrev pub invariant-loop-name : goal.invariant-loop-name
invariant-loop-name l = l.row ≡ filter_map (placed l.globals) (take l.name-index l.refs)
