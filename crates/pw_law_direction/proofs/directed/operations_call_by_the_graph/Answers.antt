use Rattle.pw_law_direction.proofs.Operations.{operations_call}
use Rattle.pw_law_direction.proofs.directed.operations_call_by_the_graph.Goals as goal

pub returns : goal.returns
returns c = operations_call
