use Rattle.std.proofs.Common.{◌≡◌, ◌-◌}
use Rattle.pw_fields.specs.Fields.{repeated}
use Rattle.pw_fields.proofs.FieldLoops.{with_front}
use Rattle.pw_flow_ops.specs.Reading.{op_at}
use Rattle.pw_flow_ops.proofs.op_reading.read_ops.Given as goal

abbrev pub invariant-loop : goal.invariant-loop
invariant-loop l = with_front l.ops (repeated (op_at l.names l.at.temps l.at.slots) (l.count - l.counter) l.rest) ≡ repeated (op_at l.names l.at.temps l.at.slots) l.count l.bytes
