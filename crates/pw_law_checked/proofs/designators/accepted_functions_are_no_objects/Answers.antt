use Rattle.pw_law_checked.proofs.OwnNames.{module_bodies}
use Rattle.pw_law_checked.proofs.designators.accepted_functions_are_no_objects.Goals as goal

pub returns : goal.returns
returns c = module_bodies
