use Rattle.std.proofs.Common.{drop, arith}
use Rattle.pw_flow.proofs.Rooms.{grows}
use Rattle.pw_flow_valid.proofs.valid.has_room.Goals as goal

pub returns-then-room-from : goal.returns-then-room-from
returns-then-room-from c = (λ b. absurd cc, λ h. absurd (omega (arith, grows c.loop-size.room (drop c.loop-size.size-index c.args.slots.now), c.loop-size.invariant.so_far)))
