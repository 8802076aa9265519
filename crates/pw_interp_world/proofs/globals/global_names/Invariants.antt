use Rattle.std.proofs.Common.{◌≡◌, take, map}
use Rattle.std.specs.List.{flat_map}
use Rattle.pw_cmean.specs.Worlds as worlds
use Rattle.pw_interp_world.specs.Views.{view_part}
use Rattle.pw_interp_world.proofs.globals.global_names.Given as goal

abbrev pub invariant-loop-part : goal.invariant-loop-part
invariant-loop-part l = l.names.items ≡ flat_map (λ m. map (λ g. worlds.full_name m.name g.name) m.tree.globals) (map view_part (take l.part-index l.parts))
