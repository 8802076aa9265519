use Rattle.std.proofs.Common.{◌≡◌, ◌+◌, drop, sum_by}
use Rattle.pw_value.specs.Caps.{capped}
use Rattle.pw_types.specs.Rooms as spec
use Rattle.pw_typed.specs.Views as view
use Rattle.pw_typed.proofs.rooms.room.Given as goal

-- what is left is still to be added
abbrev pub invariant-loop-local : goal.invariant-loop-local
invariant-loop-local l =
    (capped (l.room + sum_by (spec.local_room l.types) (view.view_locals (drop l.local-index l.local-items)))
    ≡ capped (spec.start_room + sum_by (spec.local_room l.types) (view.view_locals l.local-items)))
    × (l.room ≡ capped l.room)
