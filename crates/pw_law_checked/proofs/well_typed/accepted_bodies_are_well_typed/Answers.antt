use Rattle.pw_law_checked.proofs.well_typed.accepted_bodies_are_well_typed.Goals as goal
use Rattle.pw_law_checked.proofs.Bodies.{module_bodies}

pub returns : goal.returns
returns g = module_bodies
