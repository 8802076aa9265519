use Rattle.pw_law_placed.proofs.Waiting.{waiting_same}
use Rattle.pw_law_placed.proofs.waiting_rests_on_kept.Goals as goal

pub returns : goal.returns
returns c = waiting_same
