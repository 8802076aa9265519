use Rattle.std.proofs.Common.{◌≡◌, ◌++◌, map, take}
use Rattle.std.specs.List.{flat_map}
use Rattle.pw_object.specs.Functions.{names_of_function}
use Rattle.pw_object.proofs.names.add_functions.Given as goal

abbrev pub invariant-loop-function : goal.invariant-loop-function
invariant-loop-function l = map (λ name. name.now) l.used.items ≡ map (λ name. name.now) l.fn.used.items ++ flat_map names_of_function (take l.function-index l.functions)
