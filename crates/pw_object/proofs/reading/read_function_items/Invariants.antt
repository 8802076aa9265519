use Rattle.std.proofs.Common.{◌≡◌, ◌-◌}
use Rattle.pw_fields.specs.Fields.{repeated}
use Rattle.pw_fields.proofs.FieldLoops.{with_front}
use Rattle.pw_object.specs.Reading.{function_at}
use Rattle.pw_object.proofs.reading.read_function_items.Given as goal

abbrev pub invariant-loop : goal.invariant-loop
invariant-loop l = with_front l.items (repeated (function_at l.names) (l.count - l.counter) l.rest) ≡ repeated (function_at l.names) l.count l.bytes
