use Rattle.std.proofs.Common.{◌≡◌, map, take}
use Rattle.pw_typed.specs.Views.{view_placed}
use Rattle.pw_check_result.proofs.results.copy_items.Given as goal

-- those so far
abbrev pub invariant-loop-placed : goal.invariant-loop-placed
invariant-loop-placed l = map view_placed l.copies.items ≡ map view_placed (take l.placed-index l.items)
