use Rattle.pw_law_direction.proofs.ByName.{loads-follow}
use Rattle.pw_law_direction.proofs.side_by_side.loads_follow.Goals as goal

pub returns : goal.returns
returns c = loads-follow
