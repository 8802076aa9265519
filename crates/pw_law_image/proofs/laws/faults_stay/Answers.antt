use Rattle.pw_law_image.proofs.ImageFaults as laws
use Rattle.pw_law_image.proofs.laws.faults_stay.Goals as goal

pub returns : goal.returns
returns c = laws.faults_stay
