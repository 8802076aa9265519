use Rattle.pw_law_checked.proofs.limits.accepted_strings_are_short.Goals as goal
use Rattle.pw_law_checked.proofs.SmallModules.{module_strings}

pub returns : goal.returns
returns g = module_strings
