use Rattle.pw_law_link.proofs.Places.{items_stand, globals_are, all_globals, own_bytes, below_stack}
use Rattle.pw_law_link.proofs.laws.data_stand_at_their_addresses.Goals as goal

pub returns-clause-items : goal.returns-clause-items
returns-clause-items c = items_stand

pub returns-clause-map : goal.returns-clause-map
returns-clause-map c = globals_are

pub returns-clause-globals : goal.returns-clause-globals
returns-clause-globals c = all_globals

pub returns-clause-apart : goal.returns-clause-apart
returns-clause-apart c = own_bytes

pub returns-clause-below : goal.returns-clause-below
returns-clause-below c = below_stack
