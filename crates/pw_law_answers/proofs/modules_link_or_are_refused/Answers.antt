use Rattle.pw_law_answers.proofs.Linking.{links_or_refused}
use Rattle.pw_law_answers.proofs.modules_link_or_are_refused.Goals as goal

pub returns : goal.returns
returns c = links_or_refused
