use Rattle.std.proofs.Common.{◌≡◌, ◌+◌, ◌++◌, ◌-◌}
use Rattle.pw_value.specs.Limits.{depth_limit}
use Rattle.pw_check_rules.specs.Initialisers.{reach, reached}
use Rattle.pw_check_init_parts.specs.PlaceViews.{view_cursor, view_takes}
use Rattle.pw_check_init_parts.proofs.reaching.reach.Given as goal

-- from the objects that were entered, what is reached is that from the start
abbrev pub invariant-loop-level : goal.invariant-loop-level
invariant-loop-level l =
    reached (depth_limit + 1 - l._level) l.types (view_takes l.takes) (view_cursor l.within.items ++ view_cursor l.cursor)
    ≡ reach l.types (view_takes l.takes) (view_cursor l.cursor)
