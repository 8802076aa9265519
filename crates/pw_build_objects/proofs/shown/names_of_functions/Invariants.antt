use Rattle.std.proofs.Common.{◌≡◌, map, take}
use Rattle.pw_build_objects.proofs.shown.names_of_functions.Given as goal

abbrev pub invariant-loop-function : goal.invariant-loop-function
invariant-loop-function l = map (λ name. name.now) l.names.items ≡ map (λ f. f.name) (take l.function-index l.functions)
