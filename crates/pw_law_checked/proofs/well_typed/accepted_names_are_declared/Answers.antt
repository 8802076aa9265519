use Rattle.pw_law_checked.proofs.well_typed.accepted_names_are_declared.Goals as goal
use Rattle.pw_law_checked.proofs.Laws.{module_functions_declared, module_objects_declared}

pub returns-clause-functions : goal.returns-clause-functions
returns-clause-functions g = module_functions_declared

pub returns-clause-objects : goal.returns-clause-objects
returns-clause-objects g = module_objects_declared
