use Rattle.pw_law_placed.proofs.Writing.{results_follow}
use Rattle.pw_law_placed.proofs.results_follow.Goals as goal

pub returns : goal.returns
returns c = results_follow
