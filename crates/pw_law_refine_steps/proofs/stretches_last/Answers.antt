use Rattle.pw_law_refine_steps.proofs.Lasting.{lasts-then, stands-later}
use Rattle.pw_law_refine_steps.proofs.stretches_last.Goals as goal

pub returns-clause-lasts : goal.returns-clause-lasts
returns-clause-lasts c = lasts-then

pub returns-clause-stands : goal.returns-clause-stands
returns-clause-stands c = stands-later
