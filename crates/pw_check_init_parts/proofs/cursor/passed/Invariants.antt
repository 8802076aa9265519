use Rattle.std.proofs.Common.{◌≡◌, length}
use Rattle.pw_check_rules.specs.Initialisers.{passed}
use Rattle.pw_check_init_parts.specs.PlaceViews.{view_cursor}
use Rattle.pw_check_init_parts.proofs.cursor.passed.Given as goal

-- behind the objects that are left stands what stands behind all
abbrev pub invariant-loop-frame : goal.invariant-loop-frame
invariant-loop-frame l = passed l.types (view_cursor l.cursor.items) ≡ passed l.types (view_cursor l.fn.cursor.items)

abbrev pub decreases-loop-frame : goal.decreases-loop-frame
decreases-loop-frame l = length l.cursor.items
