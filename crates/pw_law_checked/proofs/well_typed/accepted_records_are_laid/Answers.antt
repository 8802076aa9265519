use Rattle.pw_law_checked.proofs.well_typed.accepted_records_are_laid.Goals as goal
use Rattle.pw_law_checked.proofs.Laws.{module_laid, module_known}

pub returns-clause-laid : goal.returns-clause-laid
returns-clause-laid g = module_laid

pub returns-clause-known : goal.returns-clause-known
returns-clause-known g = module_known
