use Rattle.pw_db_file.proofs.DatabaseFaults as laws
use Rattle.pw_db_file.proofs.laws.payload_faults_stay.Goals as goal

pub returns : goal.returns
returns c = laws.payload_faults_stay
