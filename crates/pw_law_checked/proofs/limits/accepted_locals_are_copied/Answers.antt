use Rattle.pw_law_checked.proofs.limits.accepted_locals_are_copied.Goals as goal
use Rattle.pw_law_checked.proofs.FitStatements.{module_locals}

pub returns : goal.returns
returns g = λ tree m text h. module_locals tree m (g.accepted_locals_are_objects.ensures tree m h) text h
