use Rattle.pw_law_direction.proofs.WebWrites.{writes-follow}
use Rattle.pw_law_direction.proofs.side_by_side.writes_follow.Goals as goal

pub returns : goal.returns
returns c = writes-follow
