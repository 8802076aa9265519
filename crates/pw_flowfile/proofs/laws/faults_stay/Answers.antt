use Rattle.pw_flowfile.proofs.FlowFaults as laws
use Rattle.pw_flowfile.proofs.laws.faults_stay.Goals as goal

pub returns : goal.returns
returns c = laws.faults_stay
