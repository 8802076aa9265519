use Rattle.pw_law_select_known.proofs.Running.{pointers_are_known, slots_are_behind_globals}
use Rattle.pw_law_select_known.proofs.pointers_are_known.Goals as goal

pub returns-clause-known : goal.returns-clause-known
returns-clause-known c = pointers_are_known

pub returns-clause-slots : goal.returns-clause-slots
returns-clause-slots c = slots_are_behind_globals
