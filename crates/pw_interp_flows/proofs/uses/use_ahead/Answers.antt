use Rattle.std.proofs.Common.{refl, rules}
use Rattle.pw_interp_calls.specs.Views.{view_env}
use Rattle.pw_interp_todo.proofs.LeadLaws.{left_so, same_lead, then_more, then_stops}
use Rattle.pw_interp_flows.proofs.uses.use_ahead.Goals as goal

pub returns-in_err-more : goal.returns-in_err-more
returns-in_err-more c n = then_stops _ c.tested.ensures c.in_err-more.was (search rules)

pub returns : goal.returns
returns c n = then_more _ c.tested.ensures c.in_ok-more.was (left_so _ refl (same_lead (λ s. c.turn_or_leave.ensures (view_env c.args.env.now) n s)))
