use Rattle.std.proofs.Common.{◌≡◌, map, take}
use Rattle.pw_graph.specs.Making.{scalar}
use Rattle.pw_graph.proofs.eligible.scalar_names.Given as goal

abbrev pub invariant-loop-global : goal.invariant-loop-global
invariant-loop-global l = map (λ n. n.now) l.names.items ≡ map (λ v. v.0) (map scalar (take l.global-index l.globals))
