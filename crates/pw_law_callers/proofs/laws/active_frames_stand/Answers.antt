use Rattle.pw_law_callers.proofs.Inside.{frames_stand}
use Rattle.pw_law_callers.proofs.laws.active_frames_stand.Goals as goal

pub returns : goal.returns
returns c = frames_stand
