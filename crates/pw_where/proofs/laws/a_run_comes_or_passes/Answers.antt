use Rattle.pw_where.proofs.Once.{call_or_end}
use Rattle.pw_where.proofs.laws.a_run_comes_or_passes.Goals as goal

pub returns : goal.returns
returns c = call_or_end
