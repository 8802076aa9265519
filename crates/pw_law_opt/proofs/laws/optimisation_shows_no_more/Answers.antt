use Rattle.pw_law_opt.proofs.Naming.{shows_no_more}
use Rattle.pw_law_opt.proofs.laws.optimisation_shows_no_more.Goals as goal

pub returns : goal.returns
returns c = shows_no_more
