use Rattle.std.proofs.Common.{◌≡◌, map, take}
use Rattle.pw_graph.proofs.views.global_names.Given as goal

abbrev pub invariant-loop-global : goal.invariant-loop-global
invariant-loop-global l = l.names ≡ map (λ g. g.0) (take l.global-index l.globals)
