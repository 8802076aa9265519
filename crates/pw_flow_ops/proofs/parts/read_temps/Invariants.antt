use Rattle.std.proofs.Common.{◌≡◌, ◌-◌}
use Rattle.pw_fields.specs.Fields.{repeated}
use Rattle.pw_fields.proofs.FieldLoops.{with_front}
use Rattle.pw_flow_ops.specs.Reading.{below_at}
use Rattle.pw_flow_ops.proofs.parts.read_temps.Given as goal

abbrev pub invariant-loop : goal.invariant-loop
invariant-loop l = with_front l.args (repeated (below_at l.temps) (l.count - l.counter) l.rest) ≡ repeated (below_at l.temps) l.count l.bytes
