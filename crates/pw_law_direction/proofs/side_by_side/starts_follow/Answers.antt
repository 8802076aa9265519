use Rattle.pw_law_direction.proofs.Starting.{starts-follow}
use Rattle.pw_law_direction.proofs.side_by_side.starts_follow.Goals as goal

pub returns : goal.returns
returns c = starts-follow c.taken_functions_are_fine.ensures
