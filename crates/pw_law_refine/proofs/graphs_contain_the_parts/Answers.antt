use Rattle.pw_lower.specs.Expressions.{lower}
use Rattle.pw_lower.specs.Statements.{lower_statement}
use Rattle.pw_law_refine.proofs.Parts.{parts}
use Rattle.pw_law_refine.proofs.graphs_contain_the_parts.Goals as goal

pub returns-clause-expressions : goal.returns-clause-expressions
returns-clause-expressions c =
    λ g h a d w. parts g d (lower h a d).code w (c.later_code_keeps.ensures.expressions h a d)

pub returns-clause-statements : goal.returns-clause-statements
returns-clause-statements c =
    λ g f ways a d w. parts g d (lower_statement f ways a d) w (c.later_code_keeps.ensures.statements f ways a d)
