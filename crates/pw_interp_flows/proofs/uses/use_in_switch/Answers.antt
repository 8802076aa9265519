use Rattle.std.proofs.Common.{refl, rules}
use Rattle.pw_interp_calls.specs.Views.{view_env}
use Rattle.pw_interp_todo.proofs.LeadLaws.{left_so, same_lead, then_more, then_stops}
use Rattle.pw_interp_flows.proofs.uses.use_in_switch.Goals as goal

pub returns-in_err-value : goal.returns-in_err-value
returns-in_err-value c n = then_stops _ (c.used.ensures.answers _) c.in_err-value.was (search rules)

pub returns : goal.returns
returns c n = then_more _ (c.used.ensures.answers _) c.in_ok-value.was (left_so _ refl (same_lead (λ s. c.switched.ensures (view_env c.args.env.now) n s)))
