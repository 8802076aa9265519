use Rattle.pw_law_direction.proofs.Refining.{direction-refines}
use Rattle.pw_law_direction.proofs.side_by_side.direction_refines.Goals as goal

pub returns : goal.returns
returns c = direction-refines c.taken_functions_are_fine.ensures c.start_is_not_called.ensures
