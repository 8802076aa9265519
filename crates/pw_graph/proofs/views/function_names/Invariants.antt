use Rattle.std.proofs.Common.{◌≡◌, map, take}
use Rattle.pw_graph.proofs.views.function_names.Given as goal

abbrev pub invariant-loop-function : goal.invariant-loop-function
invariant-loop-function l = l.names ≡ map (λ f. f.0) (take l.function-index l.functions)
