use Rattle.pw_law_select_known.proofs.Noting.{active_calls_are_noted}
use Rattle.pw_law_select_known.proofs.active_calls_are_noted.Goals as goal

pub returns : goal.returns
returns c = active_calls_are_noted
