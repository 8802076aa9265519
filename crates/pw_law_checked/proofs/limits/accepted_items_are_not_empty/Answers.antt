use Rattle.pw_law_checked.proofs.limits.accepted_items_are_not_empty.Goals as goal
use Rattle.pw_law_checked.proofs.FitStatements.{module_items}

pub returns : goal.returns
returns g = module_items
