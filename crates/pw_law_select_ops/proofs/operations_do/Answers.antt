use Rattle.pw_law_select_ops.proofs.All.{operations_follow}
use Rattle.pw_law_select_ops.proofs.operations_do.Goals as goal

pub returns : goal.returns
returns c = operations_follow c.computations_do.ensures c.routines_do.ensures c.globals_do.ensures c.accesses_do.ensures c.copies_do.ensures
