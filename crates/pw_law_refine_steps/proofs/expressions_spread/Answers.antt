use Rattle.pw_law_refine_steps.proofs.Spreading.{expression-spreads, expression-labels}
use Rattle.pw_law_refine_steps.proofs.expressions_spread.Goals as goal

pub returns-clause-blocks : goal.returns-clause-blocks
returns-clause-blocks c = expression-spreads

pub returns-clause-labels : goal.returns-clause-labels
returns-clause-labels c = expression-labels
