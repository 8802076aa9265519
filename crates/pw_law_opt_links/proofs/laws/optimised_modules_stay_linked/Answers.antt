use Rattle.pw_law_opt_links.proofs.Linked.{stay_linked}
use Rattle.pw_law_opt_links.proofs.laws.optimised_modules_stay_linked.Goals as goal

pub returns : goal.returns
returns c = stay_linked c.modules_that_show_less_stay_linked.ensures c.optimisation_shows_no_more.ensures
