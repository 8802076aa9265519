use Rattle.pw_live_held.proofs.Calling.{before_some, before_none}
use Rattle.pw_live_held.proofs.held.is_before.Goals as goal

pub returns-in-Some : goal.returns-in-Some
returns-in-Some c = before_some c.args.last c.in-Some.p c.args.from c.in-Some.is

pub returns-in-None : goal.returns-in-None
returns-in-None c = before_none c.args.last c.args.from c.in-None.is
