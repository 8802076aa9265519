use Rattle.std.proofs.Common.{◌≡◌, take, map}
use Rattle.std.specs.List.{flat_map}
use Rattle.pw_cmean.specs.Worlds as worlds
use Rattle.pw_interp_world.specs.Views.{view_part, view_program}
use Rattle.pw_interp_start.proofs.objects.start_objects.Given as goal

abbrev pub invariant-loop-part : goal.invariant-loop-part
invariant-loop-part l = l.objects ≡ flat_map (λ m. map (worlds.object_of (view_program l.world.parts.now) m) m.tree.globals) (map view_part (take l.part-index l.part-items))
