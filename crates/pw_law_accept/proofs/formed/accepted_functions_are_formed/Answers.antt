use Rattle.pw_law_accept.proofs.Bodies.{functions_formed}
use Rattle.pw_law_accept.proofs.formed.accepted_functions_are_formed.Goals as goal

pub returns : goal.returns
returns c = functions_formed
