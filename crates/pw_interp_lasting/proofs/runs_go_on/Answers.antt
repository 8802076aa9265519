use Rattle.pw_interp_lasting.proofs.Machines.{run_later, stands_later}
use Rattle.pw_interp_lasting.proofs.runs_go_on.Goals as goal

pub returns-clause-machines : goal.returns-clause-machines
returns-clause-machines c = stands_later

pub returns-clause-starts : goal.returns-clause-starts
returns-clause-starts c = run_later
