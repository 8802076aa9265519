use Rattle.pw_law_refine_calls.proofs.Calling.{calls-keep-none, calls-keep-next}
use Rattle.pw_law_refine_calls.proofs.calls_keep.Goals as goal

pub returns-clause-none : goal.returns-clause-none
returns-clause-none c = calls-keep-none (record { found = c.functions_are_found.ensures.names; more = c.machines_step_on.ensures.steps })

pub returns-clause-next : goal.returns-clause-next
returns-clause-next c = calls-keep-next (record { found = c.functions_are_found.ensures.names; more = c.machines_step_on.ensures.steps })
