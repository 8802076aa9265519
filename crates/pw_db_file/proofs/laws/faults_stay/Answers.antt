use Rattle.pw_db_file.proofs.DatabaseFaults as laws
use Rattle.pw_db_file.proofs.laws.faults_stay.Goals as goal

pub returns : goal.returns
returns c = laws.faults_stay
