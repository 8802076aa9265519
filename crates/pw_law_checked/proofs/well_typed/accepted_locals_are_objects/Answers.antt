use Rattle.pw_law_checked.proofs.well_typed.accepted_locals_are_objects.Goals as goal
use Rattle.pw_law_checked.proofs.Laws.{module_locals}

pub returns : goal.returns
returns g = module_locals
