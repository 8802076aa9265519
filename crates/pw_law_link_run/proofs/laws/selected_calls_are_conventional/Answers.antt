use Rattle.pw_law_link_run.proofs.Selecting.{selected_conventional}
use Rattle.pw_law_link_run.proofs.laws.selected_calls_are_conventional.Goals as goal

pub returns : goal.returns
returns c = selected_conventional
