use Rattle.std.proofs.Common.{◌≡◌, ◌++◌, map, take}
use Rattle.std.specs.List.{flat_map}
use Rattle.pw_summarise.specs.Summarises.{in_function}
use Rattle.pw_summarise.specs.Tallies.{names_as}
use Rattle.pw_summarise.proofs.names.add_functions.Given as goal

abbrev pub invariant-loop-function : goal.invariant-loop-function
invariant-loop-function l = map (λ name. name.now) l.names.items ≡ map (λ name. name.now) l.fn.names.items ++ flat_map (in_function (names_as l.part)) (take l.function-index l.functions)
