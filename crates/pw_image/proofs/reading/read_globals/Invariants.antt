use Rattle.std.proofs.Common.{◌≡◌, ◌-◌}
use Rattle.pw_fields.specs.Fields.{repeated}
use Rattle.pw_fields.proofs.FieldLoops.{with_front}
use Rattle.pw_image.specs.Reading.{global_at}
use Rattle.pw_image.proofs.reading.read_globals.Given as goal

abbrev pub invariant-loop : goal.invariant-loop
invariant-loop l = with_front l.globals (repeated (global_at l.names) (l.count - l.counter) l.rest) ≡ repeated (global_at l.names) l.count l.bytes
