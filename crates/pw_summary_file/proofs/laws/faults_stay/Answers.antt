use Rattle.pw_summary_file.proofs.SummaryFaults as laws
use Rattle.pw_summary_file.proofs.laws.faults_stay.Goals as goal

pub returns : goal.returns
returns c = laws.faults_stay
