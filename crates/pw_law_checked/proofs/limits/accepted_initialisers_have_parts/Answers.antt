use Rattle.pw_law_checked.proofs.limits.accepted_initialisers_have_parts.Goals as goal
use Rattle.pw_law_checked.proofs.LimitFunctions.{module_parts}

pub returns : goal.returns
returns g = module_parts
