use Rattle.std.proofs.Common.{◌≡◌, ◌++◌, take, map}
use Rattle.std.specs.List.{flat_map}
use Rattle.pw_cmean.specs.Worlds as worlds
use Rattle.pw_interp_world.specs.Views.{view_part, view_callables}
use Rattle.pw_interp_world.proofs.program.callables.Given as goal

abbrev pub invariant-loop-part : goal.invariant-loop-part
invariant-loop-part l = view_callables l.all.items ≡ worlds.library ++ flat_map (λ m. map (worlds.callable m) m.tree.functions) (map view_part (take l.part-index l.parts))
