use Rattle.std.proofs.Common.{◌≡◌, ◌-◌}
use Rattle.std.specs.Prelude.{option_map, None}
use Rattle.pw_fields.specs.Fields.{items_at}
use Rattle.pw_fields.proofs.FieldLoops.{with_front}
use Rattle.pw_files.specs.Rising.{next_key}
use Rattle.pw_summary_parts.specs.Reading.{global_at}
use Rattle.pw_summary_parts.proofs.reading.read_global_items.Given as goal

abbrev pub invariant-loop : goal.invariant-loop
invariant-loop l = with_front l.items (items_at (global_at l.names) (next_key (λ g. g.0)) (l.count - l.counter) (option_map (λ b. b.now) l.before) l.rest) ≡ items_at (global_at l.names) (next_key (λ g. g.0)) l.count None l.bytes
