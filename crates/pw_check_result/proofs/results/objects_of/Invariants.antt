use Rattle.std.proofs.Common.{◌≡◌, ◌++◌, drop, map, flat_map}
use Rattle.pw_check_state.specs.StateViews.{view_state}
use Rattle.pw_check_rules.specs.Modules.{global_in}
use Rattle.pw_typed.specs.Views.{view_global}
use Rattle.pw_check_result.proofs.results.objects_of.Given as goal

-- those so far and those of the rest
abbrev pub invariant-loop-slot : goal.invariant-loop-slot
invariant-loop-slot l =
    map view_global l.globals.items ++ flat_map (global_in (view_state l.state)) (drop l.slot-index l.slots)
    ≡ flat_map (global_in (view_state l.state)) l.slots
