use Rattle.pw_law_opt.proofs.Rooms.{rooms_stay}
use Rattle.pw_law_opt.proofs.laws.optimisation_keeps_rooms.Goals as goal

pub returns : goal.returns
returns c = rooms_stay
