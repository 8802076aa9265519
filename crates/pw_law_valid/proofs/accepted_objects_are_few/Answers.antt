use Rattle.pw_law_valid.proofs.Modules.{module_few}
use Rattle.pw_law_valid.proofs.accepted_objects_are_few.Goals as goal

pub returns : goal.returns
returns g = module_few
