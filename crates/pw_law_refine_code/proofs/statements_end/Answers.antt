use Rattle.pw_law_refine_code.proofs.StatementsSpread.{fits-in}
use Rattle.pw_law_refine_code.proofs.Ending.{statement-ends, statement-keeps-labels}
use Rattle.pw_types.specs.Labels.{labels_in, cases_in}
use Rattle.pw_law_refine_code.proofs.statements_end.Goals as goal

pub returns-clause-ends : goal.returns-clause-ends
returns-clause-ends c = λ m f breaks continues from frame ways s d typed fits.
    statement-ends (record { blocks = c.expressions_spread.ensures.blocks; labels = c.expressions_spread.ensures.labels })
    c.later_code_keeps.ensures.expressions m f breaks continues from frame ways s d typed (fits-in d (labels_in s) (cases_in s) fits)

pub returns-clause-labels : goal.returns-clause-labels
returns-clause-labels c = λ m f breaks continues from frame ways s d typed fits.
    statement-keeps-labels (record { blocks = c.expressions_spread.ensures.blocks; labels = c.expressions_spread.ensures.labels })
    m f breaks continues from frame ways s d typed (fits-in d (labels_in s) (cases_in s) fits)
