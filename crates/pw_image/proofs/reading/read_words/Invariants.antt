use Rattle.std.proofs.Common.{◌≡◌, ◌-◌}
use Rattle.pw_fields.specs.Fields.{u32_at, repeated}
use Rattle.pw_fields.proofs.FieldLoops.{with_front}
use Rattle.pw_image.proofs.reading.read_words.Given as goal

abbrev pub invariant-loop : goal.invariant-loop
invariant-loop l = with_front l.words (repeated u32_at (l.count - l.counter) l.rest) ≡ repeated u32_at l.count l.bytes
