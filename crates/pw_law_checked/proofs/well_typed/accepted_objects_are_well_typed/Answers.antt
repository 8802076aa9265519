use Rattle.pw_law_checked.proofs.well_typed.accepted_objects_are_well_typed.Goals as goal
use Rattle.pw_law_checked.proofs.Whole.{globals}

pub returns : goal.returns
returns g = globals
