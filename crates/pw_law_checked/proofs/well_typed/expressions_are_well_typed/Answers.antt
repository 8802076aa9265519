use Rattle.pw_law_checked.proofs.well_typed.expressions_are_well_typed.Goals as goal
use Rattle.pw_law_checked.proofs.Laws.{expression_lawful, expression_typed}

pub returns-clause-lawful : goal.returns-clause-lawful
returns-clause-lawful g = expression_lawful

pub returns-clause-typed : goal.returns-clause-typed
returns-clause-typed g = expression_typed
