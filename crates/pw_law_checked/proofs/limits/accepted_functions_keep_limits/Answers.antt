use Rattle.pw_law_checked.proofs.limits.accepted_functions_keep_limits.Goals as goal
use Rattle.pw_law_checked.proofs.LimitFunctions.{module_params, module_rooms}

pub returns-clause-params : goal.returns-clause-params
returns-clause-params g = module_params

pub returns-clause-room : goal.returns-clause-room
returns-clause-room g = module_rooms
