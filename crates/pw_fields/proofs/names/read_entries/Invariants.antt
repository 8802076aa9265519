use Rattle.std.proofs.Common.{◌≡◌, ◌-◌, []}
use Rattle.pw_fields.specs.Fields.{items_at}
use Rattle.pw_fields.specs.FieldNames.{entry_at, next_entry}
use Rattle.pw_fields.proofs.FieldLoops.{with_front}
use Rattle.pw_fields.proofs.names.read_entries.Given as goal

abbrev pub invariant-loop : goal.invariant-loop
invariant-loop l = with_front l.names.items (items_at entry_at next_entry (l.count - l.counter) l.before l.rest) ≡ items_at entry_at next_entry l.count [] l.bytes
