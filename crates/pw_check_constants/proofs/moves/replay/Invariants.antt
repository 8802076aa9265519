use Rattle.std.proofs.Common.{◌≡◌, length, option_map}
use Rattle.pw_check_constants.specs.Moves.{replayed}
use Rattle.pw_check_constants.specs.Views.{view_place}
use Rattle.pw_check_constants.proofs.moves.replay.Given as goal

-- what is left leads from the place where all lead from the start
abbrev pub invariant-loop-way : goal.invariant-loop-way
invariant-loop-way l =
    replayed l.moves.items (option_map view_place l.place) ≡ replayed l.fn.moves.items (option_map view_place l.fn.start)

abbrev pub decreases-loop-way : goal.decreases-loop-way
decreases-loop-way l = length l.moves.items
