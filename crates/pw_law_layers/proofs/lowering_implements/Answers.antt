use Rattle.pw_law_layers.proofs.Starts.{lowered_implements}
use Rattle.pw_law_layers.proofs.lowering_implements.Goals as goal

pub returns : goal.returns
returns c = lowered_implements c.lowered_have_rooms.ensures
