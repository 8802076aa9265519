use Rattle.pw_law_refine_code.proofs.StatementsSpread.{statement-spreads}
use Rattle.pw_law_refine_code.proofs.statements_spread.Goals as goal

pub returns : goal.returns
returns c = statement-spreads (record { blocks = c.expressions_spread.ensures.blocks; labels = c.expressions_spread.ensures.labels })
