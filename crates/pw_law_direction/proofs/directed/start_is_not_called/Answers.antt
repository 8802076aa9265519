use Rattle.pw_law_direction.proofs.Starts.{not_called}
use Rattle.pw_law_direction.proofs.directed.start_is_not_called.Goals as goal

pub returns : goal.returns
returns c = λ p caller ok calls. not_called p ok caller calls
