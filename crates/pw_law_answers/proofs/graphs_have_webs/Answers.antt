use Rattle.pw_law_answers.proofs.Webs.{webs_exist}
use Rattle.pw_law_answers.proofs.graphs_have_webs.Goals as goal

pub returns : goal.returns
returns c = λ g graph. let found = webs_exist g graph in (found.0, found.1)
