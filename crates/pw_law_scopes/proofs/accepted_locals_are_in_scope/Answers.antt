use Rattle.pw_law_scopes.proofs.accepted_locals_are_in_scope.Goals as goal
use Rattle.pw_law_scopes.proofs.Functions.{module_scoped}

pub returns : goal.returns
returns g = module_scoped
