use Rattle.pw_law_link_run.proofs.Whole.{framed_steps_meet}
use Rattle.pw_law_link_run.proofs.laws.framed_steps_are_met.Goals as goal

pub returns : goal.returns
returns c = framed_steps_meet
