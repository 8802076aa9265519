use Rattle.std.proofs.Common.{◌≡◌, ◌-◌}
use Rattle.pw_fields.specs.Fields.{repeated}
use Rattle.pw_fields.proofs.FieldLoops.{with_front}
use Rattle.pw_summary_parts.specs.Reading.{uses_at}
use Rattle.pw_summary_parts.proofs.reading.read_all_uses.Given as goal

abbrev pub invariant-loop : goal.invariant-loop
invariant-loop l = with_front l.all (repeated (uses_at l.version l.names) (l.count - l.counter) l.rest) ≡ repeated (uses_at l.version l.names) l.count l.bytes
