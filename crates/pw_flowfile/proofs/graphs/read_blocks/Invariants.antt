use Rattle.std.proofs.Common.{◌≡◌, ◌-◌}
use Rattle.pw_fields.specs.Fields.{repeated}
use Rattle.pw_fields.proofs.FieldLoops.{with_front}
use Rattle.pw_flowfile.specs.Reading.{block_at}
use Rattle.pw_flowfile.proofs.graphs.read_blocks.Given as goal

abbrev pub invariant-loop : goal.invariant-loop
invariant-loop l = with_front l.blocks (repeated (block_at l.names l.at.temps l.at.slots l.count) (l.count - l.counter) l.rest) ≡ repeated (block_at l.names l.at.temps l.at.slots l.count) l.count l.bytes
