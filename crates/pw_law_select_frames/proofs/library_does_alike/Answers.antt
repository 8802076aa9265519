use Rattle.pw_law_select_frames.proofs.Library.{library_does_alike as does_alike}
use Rattle.pw_law_select_frames.proofs.library_does_alike.Goals as goal

pub returns : goal.returns
returns c = does_alike c.bytes_stand.ensures.alike
