use Rattle.pw_law_direction.proofs.Steps.{blocks-follow}
use Rattle.pw_law_direction.proofs.side_by_side.blocks_follow.Goals as goal

pub returns : goal.returns
returns c = blocks-follow
