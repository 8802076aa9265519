use Rattle.pw_law_select_frames.proofs.Extending.{value_goes, waiting_goes}
use Rattle.pw_law_select_frames.proofs.waiting_functions_stay.Goals as goal

pub returns-clause-values : goal.returns-clause-values
returns-clause-values c = λ p w site after count v n same. value_goes p w site after count same v n

pub returns-clause-waiting : goal.returns-clause-waiting
returns-clause-waiting c = waiting_goes
