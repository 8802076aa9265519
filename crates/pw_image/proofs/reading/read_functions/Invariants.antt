use Rattle.std.proofs.Common.{◌≡◌, ◌-◌}
use Rattle.pw_fields.specs.Fields.{repeated}
use Rattle.pw_fields.proofs.FieldLoops.{with_front}
use Rattle.pw_image.specs.Reading.{function_at}
use Rattle.pw_image.proofs.reading.read_functions.Given as goal

abbrev pub invariant-loop : goal.invariant-loop
invariant-loop l = with_front l.functions (repeated (function_at l.names l.words) (l.count - l.counter) l.rest) ≡ repeated (function_at l.names l.words) l.count l.bytes
