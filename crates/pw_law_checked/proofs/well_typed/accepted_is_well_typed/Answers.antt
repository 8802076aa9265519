use Rattle.pw_law_checked.proofs.well_typed.accepted_is_well_typed.Goals as goal
use Rattle.pw_law_checked.proofs.Whole.{whole}

pub returns : goal.returns
returns g = whole
