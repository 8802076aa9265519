use Rattle.pw_object.proofs.ObjectFaults as laws
use Rattle.pw_object.proofs.laws.faults_stay.Goals as goal

pub returns : goal.returns
returns c = laws.faults_stay
