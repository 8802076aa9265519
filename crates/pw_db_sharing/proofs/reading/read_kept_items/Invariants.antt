use Rattle.std.proofs.Common.{◌≡◌, ◌-◌}
use Rattle.pw_fields.specs.Fields.{items_at}
use Rattle.pw_fields.proofs.FieldLoops.{with_front}
use Rattle.pw_db.specs.Limits.{first_register}
use Rattle.pw_db_sharing.specs.Reading.{kept_at, next_least}
use Rattle.pw_db_sharing.proofs.reading.read_kept_items.Given as goal

abbrev pub invariant-loop : goal.invariant-loop
invariant-loop l = with_front l.registers (items_at (kept_at l.others) next_least (l.count - l.counter) l.least l.rest) ≡ items_at (kept_at l.others) next_least l.count first_register l.bytes
