use Rattle.pw_law_callers.proofs.Names.{follows_differ}
use Rattle.pw_law_callers.proofs.laws.only_the_first_is_start.Goals as goal

pub returns : goal.returns
returns c = follows_differ
