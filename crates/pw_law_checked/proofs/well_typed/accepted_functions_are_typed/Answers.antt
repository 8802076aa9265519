use Rattle.pw_law_checked.proofs.well_typed.accepted_functions_are_typed.Goals as goal
use Rattle.pw_law_checked.proofs.FunctionLaws.{module_typed, module_block}

pub returns-clause-typed : goal.returns-clause-typed
returns-clause-typed g = module_typed

pub returns-clause-block : goal.returns-clause-block
returns-clause-block g = module_block
