use Rattle.pw_law_refine_steps.proofs.Words.{operators, minus}
use Rattle.pw_law_refine_steps.proofs.operators_agree.Goals as goal

pub returns-clause-binary : goal.returns-clause-binary
returns-clause-binary c = operators

pub returns-clause-minus : goal.returns-clause-minus
returns-clause-minus c = minus
