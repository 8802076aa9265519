use Rattle.pw_law_told.proofs.Follows.{calls_follow}
use Rattle.pw_law_told.proofs.laws.defined_calls_follow_the_graph.Goals as goal

pub returns : goal.returns
returns c = calls_follow
