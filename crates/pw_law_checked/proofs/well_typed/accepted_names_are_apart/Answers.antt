use Rattle.pw_law_checked.proofs.well_typed.accepted_names_are_apart.Goals as goal
use Rattle.pw_law_checked.proofs.Laws.{module_apart, module_once}

pub returns-clause-one_declared : goal.returns-clause-one_declared
returns-clause-one_declared g = module_apart

pub returns-clause-one_function : goal.returns-clause-one_function
returns-clause-one_function g = module_once
