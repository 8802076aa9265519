use Rattle.pw_commands_interp.proofs.ToldLemmas.{interp_ends}
use Rattle.pw_commands_interp.proofs.laws.runs_leave_a_rest.Goals as goal

pub returns : goal.returns
returns c = λ files opts input effect d. interp_ends files opts input effect d
