use Rattle.pw_law_placed.proofs.Naming.{same_functions}
use Rattle.pw_law_placed.proofs.same_functions.Goals as goal

pub returns : goal.returns
returns c = same_functions
