use Rattle.pw_law_linked.proofs.Behind.{behind_is}
use Rattle.pw_law_linked.proofs.calls_return_behind_their_slots.Goals as goal

pub returns : goal.returns
returns c = behind_is
