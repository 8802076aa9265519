use Rattle.pw_law_selection.proofs.Linking.{states_have_links}
use Rattle.pw_law_selection.proofs.Coming.{passages_come}
use Rattle.pw_law_selection.proofs.passages_come.Goals as goal

pub returns-clause-links : goal.returns-clause-links
returns-clause-links c = states_have_links c.whole_states_go_on.ensures.links

pub returns-clause-come : goal.returns-clause-come
returns-clause-come c = passages_come c.whole_states_go_on.ensures.links
