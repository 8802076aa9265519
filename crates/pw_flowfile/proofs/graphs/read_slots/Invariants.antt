use Rattle.std.proofs.Common.{◌≡◌, ◌-◌}
use Rattle.pw_fields.specs.Fields.{items_at}
use Rattle.pw_fields.proofs.FieldLoops.{with_front}
use Rattle.pw_flowfile.specs.Reading.{slot_at, next_room}
use Rattle.pw_flowfile.proofs.graphs.read_slots.Given as goal

abbrev pub invariant-loop : goal.invariant-loop
invariant-loop l = with_front l.slots (items_at slot_at next_room (l.count - l.counter) l.used l.rest) ≡ items_at slot_at next_room l.count l.room l.bytes
