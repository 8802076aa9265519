use Rattle.pw_law_refine_steps.proofs.Steps.{steps-more, events-rise}
use Rattle.pw_law_refine_steps.proofs.machines_step_on.Goals as goal

pub returns-clause-steps : goal.returns-clause-steps
returns-clause-steps c = steps-more

pub returns-clause-events : goal.returns-clause-events
returns-clause-events c = events-rise
