use Rattle.pw_law_layers.proofs.Starts.{lowered_rooms}
use Rattle.pw_law_layers.proofs.lowered_have_rooms.Goals as goal

pub returns : goal.returns
returns c = lowered_rooms c.frames_fit.ensures.functions c.frames_fit.ensures.start
