use Rattle.pw_law_select_kept.proofs.Keeping.{operations_leave_as_found}
use Rattle.pw_law_select_kept.proofs.operations_leave_as_found.Goals as goal

pub returns : goal.returns
returns c = operations_leave_as_found
