use Rattle.pw_law_direction.proofs.WebReads.{reads-follow}
use Rattle.pw_law_direction.proofs.side_by_side.reads_follow.Goals as goal

pub returns : goal.returns
returns c = reads-follow
