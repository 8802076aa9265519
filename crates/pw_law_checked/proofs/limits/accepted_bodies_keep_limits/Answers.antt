use Rattle.pw_law_checked.proofs.limits.accepted_bodies_keep_limits.Goals as goal
use Rattle.pw_law_checked.proofs.SmallModules.{module_small}

pub returns : goal.returns
returns g = module_small
