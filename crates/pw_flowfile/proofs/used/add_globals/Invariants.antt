use Rattle.std.proofs.Common.{◌≡◌, ◌++◌, map, take}
use Rattle.std.specs.List.{flat_map}
use Rattle.pw_flowfile.specs.FlowFile.{all_in_global}
use Rattle.pw_flowfile.proofs.used.add_globals.Given as goal

abbrev pub invariant-loop-global : goal.invariant-loop-global
invariant-loop-global l = map (λ name. name.now) l.used.items ≡ map (λ name. name.now) l.fn.used.items ++ flat_map all_in_global (take l.global-index l.globals)
