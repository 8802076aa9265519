use Rattle.std.proofs.Common.{◌≡◌, ◌-◌}
use Rattle.pw_fields.specs.Fields.{repeated}
use Rattle.pw_fields.proofs.FieldLoops.{with_front}
use Rattle.pw_object.specs.Reading.{global_at}
use Rattle.pw_object.proofs.reading.read_global_items.Given as goal

abbrev pub invariant-loop : goal.invariant-loop
invariant-loop l = with_front l.items (repeated (global_at l.names) (l.count - l.counter) l.rest) ≡ repeated (global_at l.names) l.count l.bytes
