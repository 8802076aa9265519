use Rattle.pw_law_checked.proofs.limits.accepted_records_are_within.Goals as goal
use Rattle.pw_law_checked.proofs.FitStatements.{module_records}

pub returns : goal.returns
returns g = λ tree m text h. module_records tree m (g.accepted_records_are_laid.ensures.laid tree m h) text h
