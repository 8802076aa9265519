use Rattle.std.proofs.Common.{◌∙◌, Bool, List, subst}
use Rattle.pw_live_held.specs.Calls.{AreLastCalls}
use Rattle.pw_live_held.proofs.points.find_last_calls.Goals as goal

pub returns : goal.returns
returns c = subst (λ (cs : List Bool). AreLastCalls cs c.in_ok-lasts.lasts.items) (c.deref.ensures.value ∙ c.in_ok-calls.ensures) c.in_ok-lasts.ensures
