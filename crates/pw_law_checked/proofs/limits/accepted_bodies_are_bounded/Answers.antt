use Rattle.pw_law_checked.proofs.SmallModules.{module_bounded}
use Rattle.pw_law_checked.proofs.limits.accepted_bodies_are_bounded.Goals as goal

pub returns : goal.returns
returns g = module_bounded
