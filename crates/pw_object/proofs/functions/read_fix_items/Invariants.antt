use Rattle.std.proofs.Common.{◌≡◌, ◌-◌}
use Rattle.pw_fields.proofs.FieldLoops.{with_front}
use Rattle.pw_fields.specs.Fields.{repeated}
use Rattle.pw_object.specs.Reading.{fix_at}
use Rattle.pw_object.proofs.functions.read_fix_items.Given as goal

abbrev pub invariant-loop : goal.invariant-loop
invariant-loop l = with_front l.items (repeated (fix_at l.names l.words) (l.count - l.counter) l.rest) ≡ repeated (fix_at l.names l.words) l.count l.bytes
