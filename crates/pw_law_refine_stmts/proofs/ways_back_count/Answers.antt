use Rattle.pw_law_refine_stmts.proofs.Forward.{back-counts}
use Rattle.pw_law_refine_stmts.proofs.ways_back_count.Goals as goal

pub returns : goal.returns
returns c = back-counts
