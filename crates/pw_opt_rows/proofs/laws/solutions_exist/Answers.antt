use Rattle.pw_opt_rows.proofs.Solving.{least_exists}
use Rattle.pw_opt_rows.proofs.laws.solutions_exist.Goals as goal

pub returns : goal.returns
returns c = λ transfer r f. least_exists transfer r f
