use Rattle.std.proofs.Common.{◌≡◌, length}
use Rattle.pw_check_constants.specs.Frames.{unwound}
use Rattle.pw_check_constants.specs.Views.{view_constancy}
use Rattle.pw_check_constants.proofs.frames.unwind.Given as goal

-- what is left makes of the value what all make of the head
abbrev pub invariant-loop-frame : goal.invariant-loop-frame
invariant-loop-frame l =
    unwound l.frames.items (view_constancy l.value) ≡ unwound l.fn.frames.items (view_constancy l.fn.head)

abbrev pub decreases-loop-frame : goal.decreases-loop-frame
decreases-loop-frame l = length l.frames.items
