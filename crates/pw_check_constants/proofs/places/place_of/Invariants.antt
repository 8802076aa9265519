use Rattle.std.proofs.Common.{◌≡◌}
use Rattle.pw_typed.specs.Views.{view_expr}
use Rattle.pw_typed.specs.declared.tree.TForm.{size-TForm}
use Rattle.pw_check_rules.specs.Constants.{place_of}
use Rattle.pw_check_constants.specs.Moves.{replayed}
use Rattle.pw_check_constants.specs.Views.{view_asked}
use Rattle.pw_check_constants.proofs.places.place_of.Given as goal

-- the moves that were passed lead from the place of what is left to that of the whole
abbrev pub invariant-loop-moves : goal.invariant-loop-moves
invariant-loop-moves l =
    replayed l.moves.items (place_of l.types (view_asked l.asked) (view_expr l.node))
    ≡ place_of l.types (view_asked l.fn.asked) (view_expr l.e)

abbrev pub decreases-loop-moves : goal.decreases-loop-moves
decreases-loop-moves l = size-TForm l.node.form
