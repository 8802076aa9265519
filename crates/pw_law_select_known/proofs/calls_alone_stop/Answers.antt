use Rattle.pw_law_select_known.proofs.Stopping.{operations_never_stop, webs_never_stop, ends_never_stop}
use Rattle.pw_law_select_known.proofs.calls_alone_stop.Goals as goal

pub returns-clause-operations : goal.returns-clause-operations
returns-clause-operations c = operations_never_stop

pub returns-clause-webs : goal.returns-clause-webs
returns-clause-webs c = webs_never_stop

pub returns-clause-ends : goal.returns-clause-ends
returns-clause-ends c = ends_never_stop
