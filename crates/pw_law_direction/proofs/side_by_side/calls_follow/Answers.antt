use Rattle.pw_law_direction.proofs.Calling.{calls-follow}
use Rattle.pw_law_direction.proofs.side_by_side.calls_follow.Goals as goal

pub returns : goal.returns
returns c = calls-follow c.start_is_not_called.ensures
