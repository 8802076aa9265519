use Rattle.std.proofs.Common.{◌≡◌, take}
use Rattle.pw_check_names.specs.Scoping.{found_names, places_in}
use Rattle.pw_check_names.proofs.scoped.places_of.Given as goal

-- those so far
abbrev pub invariant-loop-entry : goal.invariant-loop-entry
invariant-loop-entry l = found_names l.found.items ≡ places_in (found_names (take l.entry-index l.entries))
