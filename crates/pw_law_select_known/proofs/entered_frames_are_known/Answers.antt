use Rattle.pw_law_select_known.proofs.Framed.{entered_frames_are_known}
use Rattle.pw_law_select_known.proofs.entered_frames_are_known.Goals as goal

pub returns : goal.returns
returns c = entered_frames_are_known
