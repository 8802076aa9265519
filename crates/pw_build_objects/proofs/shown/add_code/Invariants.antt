use Rattle.std.proofs.Common.{◌≡◌, ◌++◌, map, take}
use Rattle.std.specs.List.{flat_map}
use Rattle.pw_link_interface.specs.Interface.{names_of_fixes}
use Rattle.pw_build_objects.proofs.shown.add_code.Given as goal

abbrev pub invariant-loop-function : goal.invariant-loop-function
invariant-loop-function l = map (λ name. name.now) l.names.items ≡ map (λ name. name.now) l.fn.names.items ++ flat_map names_of_fixes (take l.function-index l.functions)
