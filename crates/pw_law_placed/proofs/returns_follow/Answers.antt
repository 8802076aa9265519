use Rattle.pw_law_placed.proofs.Stepping.{returned_follow}
use Rattle.pw_law_placed.proofs.returns_follow.Goals as goal

pub returns : goal.returns
returns c = returned_follow
