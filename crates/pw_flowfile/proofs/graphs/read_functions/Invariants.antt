use Rattle.std.proofs.Common.{◌≡◌, ◌-◌, ℕ, List, map}
use Rattle.pw_fields.specs.Fields.{items_at}
use Rattle.pw_fields.proofs.FieldLoops.{with_front}
use Rattle.pw_flowfile.specs.Reading.{function_at, next_function, seen_after}
use Rattle.pw_flowfile.specs.Marks.{Marks}
use Rattle.pw_flowfile.proofs.graphs.read_functions.Given as goal

abbrev pub invariant-loop : goal.invariant-loop
invariant-loop l = (seen : List (List ℕ)) → Marks l.names seen l.fn.met → Marks l.names (seen_after seen (map (λ x. x.name) l.functions)) l.met
    × (with_front l.functions (items_at (function_at l.names) next_function (l.count - l.counter) (seen_after seen (map (λ x. x.name) l.functions)) l.rest) ≡ items_at (function_at l.names) next_function l.count seen l.bytes)
