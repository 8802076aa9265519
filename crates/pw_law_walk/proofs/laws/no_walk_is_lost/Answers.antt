use Rattle.pw_law_walk.proofs.Walking.{walk_is_not_lost}
use Rattle.pw_law_walk.proofs.laws.no_walk_is_lost.Goals as goal

pub returns : goal.returns
returns c = walk_is_not_lost
