use Rattle.std.proofs.Common.{◌≡◌, ◌<◌, ◌^◌, ◌*◌, drop}
use Rattle.pw_flow.specs.ValidFlow.{rooms}
use Rattle.pw_flow_valid.proofs.valid.has_room.Given as goal

abbrev pub invariant-loop-size : goal.invariant-loop-size
invariant-loop-size l = record { so_far : rooms l.room (drop l.size-index l.slots) ≡ rooms (4 * l.temps) l.slots; small : l.room < 2 ^ 35 }
