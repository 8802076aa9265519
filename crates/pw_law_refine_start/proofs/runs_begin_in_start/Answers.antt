use Rattle.pw_law_refine_start.proofs.Starts.{begins}
use Rattle.pw_law_refine_start.proofs.runs_begin_in_start.Goals as goal

pub returns : goal.returns
returns c = λ world input lowerable. begins world input lowerable
