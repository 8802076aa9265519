use Rattle.pw_law_link_run.proofs.Running.{runs_meet}
use Rattle.pw_law_link_run.proofs.laws.steady_runs_are_met.Goals as goal

pub returns : goal.returns
returns c = runs_meet
