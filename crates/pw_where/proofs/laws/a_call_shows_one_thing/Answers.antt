use Rattle.pw_where.proofs.Orders.{one_sight}
use Rattle.pw_where.proofs.laws.a_call_shows_one_thing.Goals as goal

pub returns : goal.returns
returns c = one_sight
