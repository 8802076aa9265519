use Rattle.std.proofs.Common.{◌≡◌, drop, map}
use Rattle.pw_typed.specs.Views.{view_placed}
use Rattle.pw_cmean.specs.Worlds.{with_items}
use Rattle.pw_interp_world.specs.Views.{view_program}
use Rattle.pw_interp_start.proofs.items.put_items.Given as goal

abbrev pub invariant-loop-placed : goal.invariant-loop-placed
invariant-loop-placed l =
    with_items (view_program l.world.parts.now) l.home (map view_placed (drop l.placed-index l.items)) l.bytes
    ≡ with_items (view_program l.world.parts.now) l.home (map view_placed l.items) l.initial.bytes
