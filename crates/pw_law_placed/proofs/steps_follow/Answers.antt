use Rattle.pw_law_placed.proofs.Stepping.{steps_follow}
use Rattle.pw_law_placed.proofs.steps_follow.Goals as goal

pub returns : goal.returns
returns c = steps_follow c.operations_call_by_the_graph.ensures c.calls_follow.ensures
