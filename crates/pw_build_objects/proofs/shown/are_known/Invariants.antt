use Rattle.std.proofs.Common.{◌⊎◌, map, take}
use Rattle.std.specs.Prelude.{Contains}
use Rattle.std.specs.List.{AllByRecursion}
use Rattle.pw_build_objects.proofs.shown.are_known.Given as goal

abbrev pub invariant-loop-name : goal.invariant-loop-name
invariant-loop-name l = AllByRecursion (λ name. Contains l.used name.now ⊎ Contains (map (λ global. global.now) l.globals) name.now) (take l.name-index l.names)
