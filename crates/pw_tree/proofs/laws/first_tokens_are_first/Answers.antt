use Rattle.pw_tree.proofs.FirstLaws.{expr-first, specifiers-first, declarator-first, parameter-first, members-first, label-first, stmt-first}
use Rattle.pw_tree.proofs.laws.first_tokens_are_first.Goals as goal

pub returns-clause-expressions : goal.returns-clause-expressions
returns-clause-expressions c = expr-first

pub returns-clause-specifiers : goal.returns-clause-specifiers
returns-clause-specifiers c = specifiers-first

pub returns-clause-declarators : goal.returns-clause-declarators
returns-clause-declarators c = declarator-first

pub returns-clause-parameters : goal.returns-clause-parameters
returns-clause-parameters c = parameter-first

pub returns-clause-members : goal.returns-clause-members
returns-clause-members c = members-first

pub returns-clause-labels : goal.returns-clause-labels
returns-clause-labels c = label-first

pub returns-clause-statements : goal.returns-clause-statements
returns-clause-statements c = stmt-first
