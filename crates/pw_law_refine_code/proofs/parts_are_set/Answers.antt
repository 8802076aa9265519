use Rattle.pw_law_refine_code.proofs.Setting.{lists-are-set, labelled-are-set, blocks-are-set, ifs-are-set, whiles-are-set, dos-are-set, fors-are-set, switches-are-set, bodies-are-set}
use Rattle.pw_law_refine_code.proofs.Arms.{one-arm-is-set, arms-are-set}
use Rattle.pw_law_refine_code.proofs.parts_are_set.Goals as goal

pub returns-clause-lists : goal.returns-clause-lists
returns-clause-lists c = λ x numbers breaks continues from back ways a rest d active s.
    lists-are-set (record { blocks = c.expressions_spread.ensures.blocks; labels = c.expressions_spread.ensures.labels }) c.later_code_keeps.ensures.expressions
    (record { expressions = c.graphs_contain_the_parts.ensures.expressions; statements = c.graphs_contain_the_parts.ensures.statements })
    x numbers breaks continues from back ways a rest d s

pub returns-clause-labelled : goal.returns-clause-labelled
returns-clause-labelled c = λ x numbers breaks continues from back ways t labels body d active s.
    labelled-are-set (record { blocks = c.expressions_spread.ensures.blocks; labels = c.expressions_spread.ensures.labels }) c.later_code_keeps.ensures.expressions
    (record { expressions = c.graphs_contain_the_parts.ensures.expressions; statements = c.graphs_contain_the_parts.ensures.statements })
    x numbers breaks continues from back ways t labels body d s

pub returns-clause-blocks : goal.returns-clause-blocks
returns-clause-blocks c = λ x numbers inner breaks continues from back ways t first count initialisers items d active s begun.
    blocks-are-set (record { blocks = c.expressions_spread.ensures.blocks; labels = c.expressions_spread.ensures.labels }) c.later_code_keeps.ensures.expressions
    (record { expressions = c.graphs_contain_the_parts.ensures.expressions; statements = c.graphs_contain_the_parts.ensures.statements })
    x numbers inner breaks continues from back ways t first count initialisers items d s begun

pub returns-clause-ifs : goal.returns-clause-ifs
returns-clause-ifs c = λ x numbers breaks continues from back ways t arms otherwise d active s.
    ifs-are-set (record { blocks = c.expressions_spread.ensures.blocks; labels = c.expressions_spread.ensures.labels }) c.later_code_keeps.ensures.expressions
    (record { expressions = c.graphs_contain_the_parts.ensures.expressions; statements = c.graphs_contain_the_parts.ensures.statements })
    x numbers breaks continues from back ways t arms otherwise d s

pub returns-clause-loops : goal.returns-clause-loops
returns-clause-loops c = λ x numbers breaks continues from back ways t body d active. (
  λ e s. whiles-are-set (record { blocks = c.expressions_spread.ensures.blocks; labels = c.expressions_spread.ensures.labels }) c.later_code_keeps.ensures.expressions
      (record { expressions = c.graphs_contain_the_parts.ensures.expressions; statements = c.graphs_contain_the_parts.ensures.statements })
      x numbers breaks continues from back ways t e body d s,
  λ e s. dos-are-set (record { blocks = c.expressions_spread.ensures.blocks; labels = c.expressions_spread.ensures.labels }) c.later_code_keeps.ensures.expressions
      (record { expressions = c.graphs_contain_the_parts.ensures.expressions; statements = c.graphs_contain_the_parts.ensures.statements })
      x numbers breaks continues from back ways t body e d s,
  λ first e third s. fors-are-set (record { blocks = c.expressions_spread.ensures.blocks; labels = c.expressions_spread.ensures.labels }) c.later_code_keeps.ensures.expressions
      (record { expressions = c.graphs_contain_the_parts.ensures.expressions; statements = c.graphs_contain_the_parts.ensures.statements })
      x numbers breaks continues from back ways t first e third body d s,
)

pub returns-clause-switches : goal.returns-clause-switches
returns-clause-switches c = λ x numbers breaks continues from back ways t e cases default body d active s.
    switches-are-set (record { blocks = c.expressions_spread.ensures.blocks; labels = c.expressions_spread.ensures.labels }) c.later_code_keeps.ensures.expressions
    (record { expressions = c.graphs_contain_the_parts.ensures.expressions; statements = c.graphs_contain_the_parts.ensures.statements })
    x numbers breaks continues from back ways t e cases default body d s

pub returns-clause-bodies : goal.returns-clause-bodies
returns-clause-bodies c = λ x numbers active scope.
    bodies-are-set (record { blocks = c.expressions_spread.ensures.blocks; labels = c.expressions_spread.ensures.labels }) c.later_code_keeps.ensures.expressions
    (record { expressions = c.graphs_contain_the_parts.ensures.expressions; statements = c.graphs_contain_the_parts.ensures.statements })
    x numbers active scope

pub returns-clause-arms : goal.returns-clause-arms
returns-clause-arms c = λ x numbers breaks continues from back ways t e a d active. (
  λ s. one-arm-is-set (record { blocks = c.expressions_spread.ensures.blocks; labels = c.expressions_spread.ensures.labels })
      (record { expressions = c.graphs_contain_the_parts.ensures.expressions; statements = c.graphs_contain_the_parts.ensures.statements })
      x numbers breaks continues from back ways t e a d s,
  λ rest otherwise more s. arms-are-set (record { blocks = c.expressions_spread.ensures.blocks; labels = c.expressions_spread.ensures.labels })
      (record { expressions = c.graphs_contain_the_parts.ensures.expressions; statements = c.graphs_contain_the_parts.ensures.statements })
      x numbers breaks continues from back ways t e a rest otherwise d more s,
)
