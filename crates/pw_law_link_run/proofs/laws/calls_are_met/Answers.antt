use Rattle.pw_law_link_run.proofs.Calls.{enters_simulates}
use Rattle.pw_law_link_run.proofs.laws.calls_are_met.Goals as goal

pub returns-clause-entry : goal.returns-clause-entry
returns-clause-entry c = enters_simulates
