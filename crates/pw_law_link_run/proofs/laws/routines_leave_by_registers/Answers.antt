use Rattle.pw_law_link_run.proofs.Leaving.{leaves_alike}
use Rattle.pw_law_link_run.proofs.laws.routines_leave_by_registers.Goals as goal

pub returns-clause-alike : goal.returns-clause-alike
returns-clause-alike c = leaves_alike
