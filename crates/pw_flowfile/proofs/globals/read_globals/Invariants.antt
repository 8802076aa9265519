use Rattle.std.proofs.Common.{◌≡◌, ◌-◌, ℕ, List, map}
use Rattle.pw_fields.specs.Fields.{items_at}
use Rattle.pw_fields.proofs.FieldLoops.{with_front}
use Rattle.pw_flowfile.specs.Reading.{global_at, next_global, seen_after}
use Rattle.pw_flowfile.specs.Marks.{Marks}
use Rattle.pw_flowfile.proofs.globals.read_globals.Given as goal

abbrev pub invariant-loop : goal.invariant-loop
invariant-loop l = (seen : List (List ℕ)) → Marks l.names seen l.fn.met → Marks l.names (seen_after seen (map (λ x. x.name) l.globals)) l.met
    × (with_front l.globals (items_at (global_at l.names) next_global (l.count - l.counter) (seen_after seen (map (λ x. x.name) l.globals)) l.rest) ≡ items_at (global_at l.names) next_global l.count seen l.bytes)
