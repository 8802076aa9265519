use Rattle.pw_law_direction.proofs.Steps.{operations-follow}
use Rattle.pw_law_direction.proofs.side_by_side.operations_follow.Goals as goal

pub returns : goal.returns
returns c = operations-follow c.taken_functions_are_fine.ensures
