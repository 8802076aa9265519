use Rattle.std.proofs.Common.{◌≡◌, take}
use Rattle.pw_check_names.specs.Scoping.{found_names, tags_in}
use Rattle.pw_check_names.proofs.scoped.tags_of.Given as goal

-- those so far
abbrev pub invariant-loop-entry : goal.invariant-loop-entry
invariant-loop-entry l = found_names l.found.items ≡ tags_in (found_names (take l.entry-index l.entries))
