use Rattle.pw_law_operations.proofs.Asking.{stays_inside}
use Rattle.pw_law_operations.proofs.calls_alone_enter.Goals as goal

pub returns : goal.returns
returns c = stays_inside
