use Rattle.std.proofs.Common.{◌≡◌}
use Rattle.pw_check_walk.specs.Walks.{outcome}
use Rattle.pw_check_state.specs.StateViews.{view_state}
use Rattle.pw_check_init_parts.specs.PlaceViews.{view_cursor}
use Rattle.pw_check_rules.specs.Initialisers.{inits_rule}
use Rattle.pw_tree.specs.Views.{view_inits}
use Rattle.pw_check_init.specs.Readings.{left_of, reading_rule}
use Rattle.pw_check_init_parts.specs.FilledViews.{view_context, view_filled}
use Rattle.pw_check_init.specs.Views.{view_reading}
use Rattle.pw_check_init.proofs.readings.inits_rule.Given as goal

-- what is left comes to what the whole list does
abbrev pub invariant-loop-alloc : goal.invariant-loop-alloc
invariant-loop-alloc g l =
    outcome (inits_rule (view_inits l.items) (view_context l.cx) (view_cursor l.fn.before.cursor.items) (view_filled l.fn.before.filled) (view_state l.initial.state))
    ≡ outcome (reading_rule (view_context l.cx) (view_reading l.x) (view_state l.state))

abbrev pub decreases-loop-alloc : goal.decreases-loop-alloc
decreases-loop-alloc g l = left_of (view_reading l.x)
