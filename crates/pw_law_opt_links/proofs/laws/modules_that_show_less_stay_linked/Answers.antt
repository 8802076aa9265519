use Rattle.pw_law_opt_links.proofs.Linked.{still_linked}
use Rattle.pw_law_opt_links.proofs.laws.modules_that_show_less_stay_linked.Goals as goal

pub returns : goal.returns
returns c = still_linked
