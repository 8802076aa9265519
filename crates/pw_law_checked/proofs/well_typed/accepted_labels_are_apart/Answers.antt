use Rattle.pw_law_checked.proofs.well_typed.accepted_labels_are_apart.Goals as goal
use Rattle.pw_law_checked.proofs.FunctionLaws.{module_labels}

pub returns : goal.returns
returns g = module_labels
