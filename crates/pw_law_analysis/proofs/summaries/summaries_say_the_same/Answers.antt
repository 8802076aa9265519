use Rattle.pw_law_analysis.proofs.Same.{same}
use Rattle.pw_law_analysis.proofs.summaries.summaries_say_the_same.Goals as goal

pub returns : goal.returns
returns c = λ q ss g program shapes all is. same q program shapes ss all g is
