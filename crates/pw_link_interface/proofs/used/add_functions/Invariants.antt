use Rattle.std.proofs.Common.{◌≡◌, ◌++◌, map, take}
use Rattle.std.specs.List.{flat_map}
use Rattle.pw_link_interface.specs.Interface.{names_of_fixes}
use Rattle.pw_link_interface.proofs.used.add_functions.Given as goal

abbrev pub invariant-loop-each : goal.invariant-loop-each
invariant-loop-each l = map (λ name. name.now) l.used.items ≡ map (λ name. name.now) l.fn.used.items ++ flat_map names_of_fixes (take l.each-index l.functions)
