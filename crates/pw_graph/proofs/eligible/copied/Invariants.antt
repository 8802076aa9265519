use Rattle.std.proofs.Common.{◌≡◌, map, take}
use Rattle.pw_graph.specs.Making.{scalar}
use Rattle.pw_graph.proofs.eligible.copied.Given as goal

abbrev pub invariant-loop-global : goal.invariant-loop-global
invariant-loop-global l = l.copies ≡ map scalar (take l.global-index l.globals)
