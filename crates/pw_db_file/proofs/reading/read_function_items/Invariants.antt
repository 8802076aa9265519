use Rattle.std.proofs.Common.{◌≡◌, ◌-◌, map}
use Rattle.std.specs.Prelude.{option_map}
use Rattle.pw_fields.specs.Fields.{items_at}
use Rattle.pw_fields.proofs.FieldLoops.{with_front}
use Rattle.pw_db_file.specs.Reading.{function_at, next_function, nothing_before}
use Rattle.pw_db_file.specs.Seen.{known_web}
use Rattle.pw_db_file.proofs.reading.read_function_items.Given as goal

abbrev pub invariant-loop : goal.invariant-loop
invariant-loop l = with_front l.functions (items_at (function_at l.version l.names) next_function (l.count - l.counter) (record { name = option_map (λ n. n.now) l.before; webs = map known_web l.seen.webs.items }) l.rest) ≡ items_at (function_at l.version l.names) next_function l.count nothing_before l.bytes
