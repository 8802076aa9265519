use Rattle.pw_law_direction.proofs.Returning.{returns-follow}
use Rattle.pw_law_direction.proofs.side_by_side.returns_follow.Goals as goal

pub returns : goal.returns
returns c = returns-follow c.start_is_not_called.ensures
