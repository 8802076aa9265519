use Rattle.pw_law_checked.proofs.limits.accepted_names_are_identifiers.Goals as goal
use Rattle.pw_law_checked.proofs.Names.{declared_names, function_names, global_names}

pub returns-clause-declared : goal.returns-clause-declared
returns-clause-declared g = declared_names

pub returns-clause-functions : goal.returns-clause-functions
returns-clause-functions g = function_names

pub returns-clause-objects : goal.returns-clause-objects
returns-clause-objects g = global_names
