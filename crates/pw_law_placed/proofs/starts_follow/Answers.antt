use Rattle.pw_law_placed.proofs.Starting.{starts_follow}
use Rattle.pw_law_placed.proofs.starts_follow.Goals as goal

pub returns : goal.returns
returns c = starts_follow
