use Rattle.pw_law_entered.proofs.Reaching.{enters_at}
use Rattle.pw_law_entered.proofs.laws.calls_are_entered.Goals as goal

pub returns : goal.returns
returns c = enters_at c.traces_count_calls.ensures c.a_run_has_one_call.ensures.step c.a_run_has_one_call.ensures.state
