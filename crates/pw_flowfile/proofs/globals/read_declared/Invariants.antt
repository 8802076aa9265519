use Rattle.std.proofs.Common.{◌≡◌, ◌-◌, ℕ, List, map}
use Rattle.pw_fields.specs.Fields.{items_at}
use Rattle.pw_fields.proofs.FieldLoops.{with_front}
use Rattle.pw_flowfile.specs.Reading.{declared_at, next_declared, seen_after}
use Rattle.pw_flowfile.specs.Marks.{Marks}
use Rattle.pw_flowfile.proofs.globals.read_declared.Given as goal

abbrev pub invariant-loop : goal.invariant-loop
invariant-loop l = (seen : List (List ℕ)) → Marks l.names seen l.fn.met → Marks l.names (seen_after seen (map (λ x. x.0) l.declared)) l.met
    × (with_front l.declared (items_at (declared_at l.names) next_declared (l.count - l.counter) (seen_after seen (map (λ x. x.0) l.declared)) l.rest) ≡ items_at (declared_at l.names) next_declared l.count seen l.bytes)
