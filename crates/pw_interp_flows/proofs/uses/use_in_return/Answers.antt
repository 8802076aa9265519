use Rattle.std.proofs.Common.{rules}
use Rattle.pw_interp_todo.proofs.LeadLaws.{leaves, then_more, then_stops}
use Rattle.pw_interp_flows.proofs.uses.use_in_return.Goals as goal

pub returns-in_err-value : goal.returns-in_err-value
returns-in_err-value c n = then_stops _ (c.used.ensures.answers _) c.in_err-value.was (search rules)

pub returns : goal.returns
returns c n = then_more _ (c.used.ensures.answers _) c.in_ok-value.was (leaves _)
