use Rattle.std.proofs.Common.{◌≡◌, ◌-◌}
use Rattle.pw_fields.specs.Fields.{items_at}
use Rattle.pw_fields.proofs.FieldLoops.{with_front}
use Rattle.pw_image.specs.Reading.{item_at, next_free}
use Rattle.pw_image.proofs.reading.read_items.Given as goal

abbrev pub invariant-loop : goal.invariant-loop
invariant-loop l = with_front l.items (items_at (item_at l.size) next_free (l.count - l.counter) l.free l.rest) ≡ items_at (item_at l.size) next_free l.count 0 l.bytes
