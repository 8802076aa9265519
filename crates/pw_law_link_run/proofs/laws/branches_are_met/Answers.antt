use Rattle.pw_law_link_run.proofs.Items.{if_simulates}
use Rattle.pw_law_link_run.proofs.laws.branches_are_met.Goals as goal

pub returns-clause-branch : goal.returns-clause-branch
returns-clause-branch c = if_simulates
