use Rattle.std.proofs.Common.{◌≡◌, drop}
use Rattle.std.specs.List.{flat_map}
use Rattle.pw_lower.specs.Places.{addressed_in_initialiser}
use Rattle.pw_typed.specs.Views.{view_initialisers}
use Rattle.pw_lower_places.specs.Marks.{marked}
use Rattle.pw_lower_places.proofs.addressed.mark_in_initialisers.Given as goal

abbrev pub invariant-loop-initialiser : goal.invariant-loop-initialiser
invariant-loop-initialiser l =
    marked (flat_map addressed_in_initialiser (view_initialisers (drop l.initialiser-index l.all))) l.marks
    ≡ marked (flat_map addressed_in_initialiser (view_initialisers l.all)) l.fn.marks
