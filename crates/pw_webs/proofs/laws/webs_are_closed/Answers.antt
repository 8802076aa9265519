use Rattle.pw_webs.proofs.Closed.{closed}
use Rattle.pw_webs.proofs.laws.webs_are_closed.Goals as goal

pub returns : goal.returns
returns c = closed
