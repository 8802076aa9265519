use Rattle.pw_law_refine_steps.proofs.Fresh.{next, related-put, steps-op}
use Rattle.pw_law_refine_steps.proofs.Forms.{fresh-reaches}
use Rattle.pw_law_refine_steps.proofs.operations_step.Goals as goal

pub returns-clause-next : goal.returns-clause-next
returns-clause-next c = next

pub returns-clause-step : goal.returns-clause-step
returns-clause-step c = steps-op

pub returns-clause-put : goal.returns-clause-put
returns-clause-put c = related-put

pub returns-clause-fresh : goal.returns-clause-fresh
returns-clause-fresh c = fresh-reaches
