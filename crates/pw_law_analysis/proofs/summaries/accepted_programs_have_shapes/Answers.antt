use Rattle.pw_law_analysis.proofs.Addresses.{have_shapes}
use Rattle.pw_law_analysis.proofs.summaries.accepted_programs_have_shapes.Goals as goal

pub returns : goal.returns
returns c = λ p frame_of stack accepted. have_shapes p frame_of stack accepted
