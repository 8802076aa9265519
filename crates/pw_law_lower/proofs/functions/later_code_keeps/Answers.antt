use Rattle.pw_law_lower.proofs.Laws.{expression_keeps, statement_keeps}
use Rattle.pw_law_lower.proofs.functions.later_code_keeps.Goals as goal

pub returns-clause-expressions : goal.returns-clause-expressions
returns-clause-expressions c = expression_keeps

pub returns-clause-statements : goal.returns-clause-statements
returns-clause-statements c = statement_keeps
