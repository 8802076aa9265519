use Rattle.pw_delay.proofs.BranchLaws.{calls_sent}
use Rattle.pw_delay.proofs.laws.calls_and_jumps_are_relocated.Goals as goal

pub returns : goal.returns
returns c = calls_sent
