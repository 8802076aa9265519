use Rattle.std.proofs.Common.{◌≡◌, map, take}
use Rattle.pw_flow.proofs.names.function_names.Given as goal

abbrev pub invariant-loop-function : goal.invariant-loop-function
invariant-loop-function l = map (λ name. name.now) l.names.items ≡ map (λ f. f.name) (take l.function-index l.functions)
