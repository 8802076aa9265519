use Rattle.pw_where.proofs.Once.{one_end}
use Rattle.pw_where.proofs.laws.a_walk_has_one_end.Goals as goal

pub returns : goal.returns
returns c = one_end
