use Rattle.std.proofs.Common.{refl, rules}
use Rattle.pw_interp_todo.proofs.LeadLaws.{last_gives, last_stops}
use Rattle.pw_interp_asks.proofs.asks.leaf_value.Goals as goal

pub returns-in_err-value : goal.returns-in_err-value
returns-in_err-value c bound = last_stops (c.leaf.ensures bound) c.in_err-value.was (search rules)

pub returns : goal.returns
returns c bound = last_gives _ (c.leaf.ensures bound) c.in_ok-value.was refl refl
