use Rattle.pw_law_refine_steps.proofs.Fresh.{temp_below}
use Rattle.pw_law_refine_steps.proofs.Binary.{known}
use Rattle.pw_law_refine_steps.proofs.locals_come_first.Goals as goal

pub returns-clause-below : goal.returns-clause-below
returns-clause-below c = temp_below

pub returns-clause-assigned : goal.returns-clause-assigned
returns-clause-assigned c = known
