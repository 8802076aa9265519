use Rattle.std.proofs.Common.{◌≡◌, take}
use Rattle.pw_check_names.specs.Scoping.{found_names}
use Rattle.pw_check_state.specs.Changes.{tags_again}
use Rattle.pw_check_state.proofs.names.declare_tags.Given as goal

-- those so far are declared
abbrev pub invariant-loop-entry : goal.invariant-loop-entry
invariant-loop-entry l = l.names ≡ tags_again (found_names (take l.entry-index l.tags)) l.initial.names
