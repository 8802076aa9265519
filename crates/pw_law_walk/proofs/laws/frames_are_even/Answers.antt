use Rattle.pw_law_walk.proofs.Walking.{frame_even}
use Rattle.pw_law_walk.proofs.laws.frames_are_even.Goals as goal

pub returns : goal.returns
returns c = frame_even
