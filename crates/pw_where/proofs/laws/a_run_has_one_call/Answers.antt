use Rattle.pw_where.proofs.Once.{one_call, one_state}
use Rattle.pw_where.proofs.laws.a_run_has_one_call.Goals as goal

pub returns-clause-step : goal.returns-clause-step
returns-clause-step c = one_call

pub returns-clause-state : goal.returns-clause-state
returns-clause-state c = one_state
