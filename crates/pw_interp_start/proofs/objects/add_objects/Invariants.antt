use Rattle.std.proofs.Common.{◌≡◌, ◌++◌, take, map}
use Rattle.pw_typed.specs.Views.{view_global}
use Rattle.pw_cmean.specs.Worlds as worlds
use Rattle.pw_interp_world.specs.Views.{view_part, view_program}
use Rattle.pw_interp_start.proofs.objects.add_objects.Given as goal

abbrev pub invariant-loop-global : goal.invariant-loop-global
invariant-loop-global l = l.objects ≡ l.fn.objects ++ map (worlds.object_of (view_program l.world.parts.now) (view_part l.part)) (map view_global (take l.global-index l.global-items))
