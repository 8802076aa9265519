use Rattle.pw_delay.proofs.BranchLaws.{branch_reaches}
use Rattle.pw_delay.proofs.laws.branches_are_resolved.Goals as goal

pub returns : goal.returns
returns c = branch_reaches
