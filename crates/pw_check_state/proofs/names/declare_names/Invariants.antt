use Rattle.std.proofs.Common.{◌≡◌, take}
use Rattle.pw_check_names.specs.Scoping.{found_names}
use Rattle.pw_check_state.specs.Changes.{names_again}
use Rattle.pw_check_state.proofs.names.declare_names.Given as goal

-- those so far are declared
abbrev pub invariant-loop-entry : goal.invariant-loop-entry
invariant-loop-entry l = l.names ≡ names_again (found_names (take l.entry-index l.ordinary)) l.initial.names
