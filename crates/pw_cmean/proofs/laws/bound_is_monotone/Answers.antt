use Rattle.pw_cmean.proofs.RunLaws.{run-end}
use Rattle.pw_cmean.proofs.laws.bound_is_monotone.Goals as goal

pub returns : goal.returns
returns c = run-end
